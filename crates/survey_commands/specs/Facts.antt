-- The answer of `facts`.
use Rattle.std.specs.Prelude.{◌≡◌, ℕ, List, Option, Some, None, Result, Ok, Err, codes}
use Rattle.m_places.specs.declared.source.Source.{Source}
use Rattle.definedness.specs.Facts.{Possible}
use Rattle.observables.specs.declared.inputs.Coded.{Coded}
use Rattle.m_symbols.specs.Declarations.{Declared}
use Rattle.micro_m.specs.declared.base.Base.{Base}
use Rattle.household.specs.declared.fault.HouseholdFault.{HouseholdFault}
use Rattle.input_ranges.specs.Ranges.{ranges_of, type_facts}
use Rattle.m_facts.specs.Lines.{facts_text}
use Rattle.m_compile.specs.Compiled.{IsProgramOf}
use Rattle.m_compile.specs.Faults.{IsSourceFault}
use Rattle.m_compile.specs.Lines.{source_line}
use Rattle.m_compile.specs.Sources.{HasRules}
use Rattle.m_compile.specs.declared.compiling.Program.{Program}
use Rattle.m_compile.specs.declared.fault.SourceFault.{SourceFault}
use Rattle.command_plans.specs.declared.status.Status.{Status}
use Rattle.command_plans.specs.declared.status.Status.TheVariants.{Done, Refused}
use Rattle.code_answers.specs.Households.{records_fault_line}
use Rattle.code_answers.specs.Replies.{HasGiven}
use Rattle.code_answers.specs.Schemes.{Scheme}
use Rattle.command_answers.specs.Sources.{IsScheme}

-- ---- ranges

-- The possible values of each input, by the bytes of ranges, or without ranges by the inputs' types.
abbrev pub given_by : List Coded → Option (List ℕ) → Result (List Possible) HouseholdFault
given_by inputs None = Ok (type_facts inputs)
given_by inputs (Some bytes) = ranges_of inputs bytes

-- the line of a fault of ranges; none for out of memory
abbrev pub ranges_fault_line : HouseholdFault → Option (List ℕ)
ranges_fault_line fault = records_fault_line (codes "ranges") fault

-- ---- answers

-- The answer of a source and ranges: the line of the source's fault; or the line of the fault of the ranges, for the
-- inputs of its program; or the lines of the facts that it has for all households within the ranges.
pub data FactsReplies (source : Source) (ranges : Option (List ℕ)) : List ℕ → Status → Type 0 where
  source_is_refused : {line : List ℕ} (fault : SourceFault) → IsSourceFault source fault → source_line source.texts fault ≡ Some line
      → FactsReplies source ranges line Refused
  ranges_are_refused : {line : List ℕ} (program : Program) (fault : HouseholdFault) → IsProgramOf source program
      → given_by program.face.inputs ranges ≡ Err fault
      → ranges_fault_line fault ≡ Some line → FactsReplies source ranges line Refused
  facts_are_found : (declared : Declared) (base : Base) (program : Program) (given : List Possible) → HasRules source declared base
      → IsProgramOf source program
      → given_by program.face.inputs ranges ≡ Ok given → FactsReplies source ranges (facts_text base program.tidy program.face given) Done

-- a valid source, and ranges without a fault for its inputs
abbrev pub FactsHaveAnswer : Source → (ranges : Option (List ℕ)) → Type 0
FactsHaveAnswer source ranges = HasGiven (IsScheme source) (λ (scheme : Scheme). given_by scheme.inputs ranges)
