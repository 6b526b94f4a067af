-- `large N`: the generated source and household have no fault, so nothing is rejected.
use Rattle.std.proofs.Common.{◌≡◌, ◌≢◌, ℕ, ℤ, ◌≤◌, List, Ok, None, refl, sym, ◌∙◌, ap, subst}
use Rattle.household.specs.Household.{household_of}
use Rattle.code_file.specs.declared.loaded.Loaded.{Loaded}
use Rattle.driver_core.specs.Inputs.{inputs_declared}
use Rattle.m_large.specs.Large.{household_text}
use Rattle.m_compile.specs.Faults.{IsSourceFault}
use Rattle.m_compile.specs.declared.fault.SourceFault.{SourceFault}
use Rattle.m_compile.specs.declared.fault.SourceFault.TheVariants as source
use Rattle.m_compile.proofs.OneLaws.{no_valid_and_fault, one_validity}
use Rattle.large_validity.specs.Sources.{large_source}
use Rattle.large_validity.proofs.Valid.{is_valid}
use Rattle.command_plans.specs.Printing.{IsAnswered}
use Rattle.command_plans.specs.Views.{OutputView}
use Rattle.command_plans.specs.declared.status.Status.{Status}
use Rattle.command_answers.specs.LargeAnswers.{LargeReplies, is_reported}
use Rattle.code_answers.specs.Larges.{ReadsLarge}
use Rattle.code_answers.specs.Larges.{large_line}
use Rattle.code_answers.specs.Shown.{HouseholdReplies}
use Rattle.command_answers.specs.Prepared.{IsPreparedCode}
use Rattle.code_answers.specs.Replies.{file_is_answered, file_is_refused}
use Rattle.code_answers.specs.Schemes.{Scheme}
use Rattle.command_answers.specs.Sources.{IsScheme}
use Rattle.code_answers.proofs.Ways.{answered_as}

-- ---- why there is no code, or no answer

no_fault : (n : ℕ) → 1 ≤ n → n ≤ 100000 → (fault : SourceFault) → IsSourceFault (large_source n) fault → ⊥
no_fault n some few fault f = let is = is_valid n some few in no_valid_and_fault (large_source n) is.declared is.base None is.requests fault is.valid f

only_memory : (fault : SourceFault) → (fault ≢ source.Memory → ⊥) → fault ≡ source.Memory
only_memory (source.Rules f) h = absurd (h (λ e. cc))
only_memory (source.Driver f) h = absurd (h (λ e. cc))
only_memory (source.Core f) h = absurd (h (λ e. cc))
only_memory (source.Requests f) h = absurd (h (λ e. cc))
only_memory (source.DriverTooLarge w) h = absurd (h (λ e. cc))
only_memory source.Memory h = refl

pub without_code_only : (n : ℕ) → 1 ≤ n → n ≤ 100000 → (fault : SourceFault) → (fault ≢ source.Memory → IsSourceFault (large_source n) fault)
    → fault ≡ source.Memory
without_code_only n some few fault h = only_memory fault (λ other. no_fault n some few fault (h other))

-- ---- the pairs of the household

given : (n : ℕ) → 1 ≤ n → n ≤ 100000 → (scheme : Scheme) → IsScheme (large_source n) scheme
    → (pairs : List (ℕ × ℤ)) × (household_of scheme.inputs (household_text n) ≡ Ok pairs)
given n some few scheme v =
    let is = is_valid n some few in
    let same = one_validity (large_source n) is.declared v.declared is.base v.base None v.written is.requests v.requests is.valid v.valid in
    let inputs : inputs_declared is.declared ≡ scheme.inputs = ap inputs_declared same.0 ∙ sym (ap (λ (s : Scheme). s.inputs) v.stated) in
    (is.pairs, subst (λ inputs. household_of inputs (household_text n) ≡ Ok is.pairs) inputs is.given)

pub reads_large : (n : ℕ) → 1 ≤ n → n ≤ 100000 → (loaded : Loaded) → IsPreparedCode (large_source n) loaded → ReadsLarge n loaded.face
reads_large n some few loaded is =
    let g = given n some few is.scheme is.valid in
    record { pairs = g.0; given = subst (λ inputs. household_of inputs (household_text n) ≡ Ok g.0) (sym is.shows.inputs) g.1 }

large_as : (n : ℕ) → 1 ≤ n → n ≤ 100000 → (scheme : Scheme) → IsScheme (large_source n) scheme → (text : List ℕ) (own : Status)
    → HouseholdReplies (large_line n) scheme (household_text n) text own → LargeReplies n text own
large_as n some few scheme valid text own (file_is_refused fault faulty line) = let g = (given n some few scheme valid).1 in cc
large_as n some few scheme valid text own (file_is_answered pairs stated) = is_reported scheme pairs valid stated

pub large_answered : (n : ℕ) → 1 ≤ n → n ≤ 100000 → (loaded : Loaded) (old new : OutputView) (status : Status) → (is : IsPreparedCode (large_source n) loaded)
    → IsAnswered (HouseholdReplies (large_line n) is.scheme (household_text n)) old new status → IsAnswered (LargeReplies n) old new status
large_answered n some few loaded old new status is a =
    answered_as (HouseholdReplies (large_line n) is.scheme (household_text n)) (LargeReplies n) old new status (large_as n some few is.scheme is.valid) a
