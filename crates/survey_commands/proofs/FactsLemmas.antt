-- The answer of `facts`, from what was printed.
use Rattle.std.proofs.Common.{◌≡◌, ℕ, List, Option, Some, Ok, Err, refl, sym, ap, ◌∙◌, subst, inl, inr}
use Rattle.std.specs.Prelude.{◌≢◌}
use Rattle.m_places.specs.declared.source.Source.{Source}
use Rattle.definedness.specs.Facts.{Possible}
use Rattle.m_symbols.specs.Declarations.{Declared}
use Rattle.micro_m.specs.declared.base.Base.{Base}
use Rattle.driver_core.specs.Inputs.{inputs_declared}
use Rattle.household.specs.declared.fault.HouseholdFault.{HouseholdFault}
use Rattle.household.specs.declared.fault.HouseholdFault.TheVariants as household
use Rattle.m_compile.specs.Compiled.{IsProgramOf}
use Rattle.m_compile.specs.Faults.{IsSourceFault}
use Rattle.m_compile.specs.Lines.{source_line}
use Rattle.m_compile.specs.Sources.{HasRules}
use Rattle.m_compile.specs.declared.compiling.Program.{Program}
use Rattle.m_compile.specs.declared.fault.SourceFault.{SourceFault}
use Rattle.m_compile.proofs.OneLaws.{one_validity}
use Rattle.command_plans.specs.Printing.{IsAnswered, printed, no_memory}
use Rattle.command_plans.specs.Status.{IsComplete}
use Rattle.command_plans.specs.Views.{OutputView}
use Rattle.command_plans.specs.declared.status.Status.{Status}
use Rattle.command_plans.specs.declared.status.Status.TheVariants.{Refused}
use Rattle.code_answers.specs.Schemes.{Scheme}
use Rattle.code_answers.specs.inner.Refusals.{ReportsLine}
use Rattle.code_answers.proofs.Refusals.{ReportsRefusal, reported_either}
use Rattle.code_answers.proofs.Ways.{answered_as}
use Rattle.command_answers.specs.Sources.{IsScheme}
use Rattle.survey_commands.specs.Facts.{FactsHaveAnswer, FactsReplies, facts_are_found, given_by, ranges_are_refused, ranges_fault_line, source_is_refused}
use Rattle.survey_commands.specs.inner.Finding.{IsFactsBy, IsFactsOf, are_facts, are_found, are_refused}
use Rattle.command_answers.proofs.SchemeLaws.{no_scheme_and_fault}

-- ---- one source

-- the inputs of a program are those of its scheme
pub scheme_inputs : (source : Source) (scheme : Scheme) (program : Program) → IsScheme source scheme → IsProgramOf source program
    → program.face.inputs ≡ scheme.inputs
scheme_inputs source scheme program v is =
    let same = (one_validity source is.declared v.declared is.base v.base is.written v.written is.requests v.requests is.valid v.valid).0 in
    is.inputs ∙ ap inputs_declared same ∙ sym (ap (λ (s : Scheme). s.inputs) v.stated)

-- ---- from what was printed to the answer

pub facts_refused : (source : Source) (ranges : Option (List ℕ)) (fault : SourceFault) (old new : OutputView) (status : Status)
    → ReportsRefusal (λ line. IsSourceFault source fault × (source_line source.texts fault ≡ Some line)) old new status
    → IsAnswered (FactsReplies source ranges) old new status
facts_refused source ranges fault old new status (inl (line, is, shown)) = printed line Refused (source_is_refused fault is.0 is.1) tt shown
facts_refused source ranges fault old new status (inr (same, memory)) = no_memory same memory

ranges_reported : (fault : HouseholdFault) {IsFault : Type 0} (old new : OutputView) (status : Status) → (fault ≢ household.Memory → IsFault)
    → ReportsLine (ranges_fault_line fault) old new status
    → ReportsRefusal (λ line. IsFault × (ranges_fault_line fault ≡ Some line)) old new status
ranges_reported fault old new status h reported = reported_either (ranges_fault_line fault) (ranges_fault_line fault) old new status refl h
    (λ m. ap ranges_fault_line m) reported

refused_by : (base : Base) (program : Program) (ranges : Option (List ℕ)) (fault : HouseholdFault) (old new : OutputView) (status : Status)
    → ReportsRefusal (λ line. (given_by program.face.inputs ranges ≡ Err fault) × (ranges_fault_line fault ≡ Some line)) old new status
    → IsAnswered (IsFactsOf base program ranges) old new status
refused_by base program ranges fault old new status (inl (line, is, shown)) = printed line Refused (are_refused fault is.0 is.1) tt shown
refused_by base program ranges fault old new status (inr (same, memory)) = no_memory same memory

pub ranges_refused : (base : Base) (program : Program) (ranges : Option (List ℕ)) (fault : HouseholdFault) (old new : OutputView) (status : Status)
    → (fault ≢ household.Memory → given_by program.face.inputs ranges ≡ Err fault) → ReportsLine (ranges_fault_line fault) old new status
    → IsAnswered (IsFactsOf base program ranges) old new status
ranges_refused base program ranges fault old new status h reported = refused_by base program ranges fault old new status
    (ranges_reported fault old new status h reported)

pub found_answered : (base : Base) (program : Program) (ranges : Option (List ℕ)) (given : List Possible) (old new : OutputView) (status : Status)
    → given_by program.face.inputs ranges ≡ Ok given
    → IsAnswered (IsFactsBy base program given) old new status → IsAnswered (IsFactsOf base program ranges) old new status
found_answered base program ranges given old new status h a =
    answered_as (IsFactsBy base program given) (IsFactsOf base program ranges) old new status (λ text own found. are_found given h found) a

facts_as : (source : Source) (declared : Declared) (base : Base) (program : Program) (ranges : Option (List ℕ)) → HasRules source declared base
    → IsProgramOf source program → (text : List ℕ) (own : Status)
    → IsFactsOf base program ranges text own → FactsReplies source ranges text own
facts_as source declared base program ranges rules is text own (are_refused fault h k) = ranges_are_refused program fault is h k
facts_as source declared base program ranges rules is text own (are_found given h are_facts) = facts_are_found declared base program given rules is h

pub facts_answered : (source : Source) (declared : Declared) (base : Base) (program : Program) (ranges : Option (List ℕ)) (old new : OutputView)
    (status : Status) → HasRules source declared base
    → IsProgramOf source program → IsAnswered (IsFactsOf base program ranges) old new status → IsAnswered (FactsReplies source ranges) old new status
facts_answered source declared base program ranges old new status rules is a =
    answered_as (IsFactsOf base program ranges) (FactsReplies source ranges) old new status (facts_as source declared base program ranges rules is) a

-- ---- what has an answer isn't rejected

pub facts_complete : (source : Source) (ranges : Option (List ℕ)) (text : List ℕ) (status : Status) → FactsHaveAnswer source ranges
    → FactsReplies source ranges text status → IsComplete status
facts_complete source ranges text status h (source_is_refused fault f k) = absurd (no_scheme_and_fault source h.own fault h.has f)
facts_complete source ranges text status h (ranges_are_refused program fault is f k) =
    let e : given_by h.own.inputs ranges ≡ Err fault = subst (λ inputs. given_by inputs ranges ≡ Err fault)
    (scheme_inputs source h.own program h.has is) f in
    let g = h.is_given in
    cc (e, g)
facts_complete source ranges text status h (facts_are_found declared base program given rules is g) = tt
