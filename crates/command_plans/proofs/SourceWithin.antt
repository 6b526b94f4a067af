-- The files of a source are within the limit of a file, and a code file within its own.
use Rattle.std.proofs.Common.{ℕ, ◌≤◌, ◌-◌, Bool, true, false, List, [], ◌∷◌, length, min, None, Result, Ok, Err, cond, arith}
use Rattle.m_places.specs.declared.limits.TheConstants.{CODE_FILE_BYTES, FILE_BYTES, RULE_BYTES}
use Rattle.command_plans.specs.Reads.{reading_of}
use Rattle.command_plans.specs.declared.listing.Listing.{Listing}
use Rattle.command_plans.specs.declared.list_fault.ListFault.{ListFault}
use Rattle.command_plans.specs.Plan.{done}
use Rattle.command_plans.proofs.Within.{KeepsWithin, within_then}
use Rattle.command_plans.specs.Source.{code_file_plan, is_none, listed, rules_plan, optional_plan, source_file_plan, source_plan}
use Rattle.command_plans.specs.declared.source.SourceNames.{SourceNames}
use Rattle.command_plans.proofs.Parts.{present}

listed_within : (read : Result Listing ListFault) → KeepsWithin FILE_BYTES (listed read)
listed_within (Ok listing) = tt
listed_within (Err fault) = tt

rules_within : (left : ℕ) (names : List (List ℕ)) → KeepsWithin FILE_BYTES (rules_plan left names)
rules_within left [] = tt
rules_within left (name ∷ names) = (
  at_most left,
  λ bytes. within_then FILE_BYTES (rules_plan (left - length bytes) names) _
      (rules_within (left - length bytes) names) (λ texts. tt),
)
  where
    at_most : (n : ℕ) → min FILE_BYTES n ≤ FILE_BYTES
    at_most n = omega arith

chosen : (test : Bool) (name : List ℕ) → KeepsWithin FILE_BYTES (cond test (done None) (present name))
chosen true name = tt
chosen false name = (omega arith, λ bytes. tt)

optional_within : (name : List ℕ) → KeepsWithin FILE_BYTES (optional_plan name)
optional_within name = chosen (is_none name) name

pub source_within : (names : SourceNames) → KeepsWithin FILE_BYTES (source_plan names)
source_within names = (
  omega arith,
  λ bytes. within_then FILE_BYTES (listed (reading_of bytes).0) _ (listed_within (reading_of bytes).0)
      (λ listing. within_then FILE_BYTES (rules_plan RULE_BYTES listing.files) _ (rules_within RULE_BYTES listing.files)
      (λ texts. within_then FILE_BYTES (optional_plan names.driver) _ (optional_within names.driver)
      (λ driver. within_then FILE_BYTES (optional_plan names.requests) _ (optional_within names.requests) (λ requests. tt)))),
)

pub source_file_within : (names : SourceNames) (name : List ℕ) → KeepsWithin FILE_BYTES (source_file_plan names name)
source_file_within names name = within_then FILE_BYTES (source_plan names) _ (source_within names) (λ source. (omega arith, λ bytes. tt))

pub code_file_within : (code name : List ℕ) → KeepsWithin CODE_FILE_BYTES (code_file_plan code name)
code_file_within code name = (omega arith, λ bytes. (omega arith, λ more. tt))
