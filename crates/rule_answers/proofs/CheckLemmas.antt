-- The answer of a check, from what was printed.
use Rattle.std.proofs.Common.{◌≡◌, ◌≤◌, ◌<◌, ℕ, List, length, Option, None, Some, Ok, Err, ap, ◌∙◌, subst, inl, inr, arith}
use Rattle.std.specs.List.{All}
use Rattle.std.specs.Prelude.{IfSome}
use Rattle.m_fixed.specs.declared.amount.Value.{Value}
use Rattle.m_places.specs.declared.limits.TheConstants.{CELLS}
use Rattle.m_places.specs.declared.source.Source.{Source}
use Rattle.household.specs.Household.{household_of, values_of}
use Rattle.household.specs.declared.fault.HouseholdFault.{HouseholdFault}
use Rattle.m_symbols.specs.Declarations.{Declared, owners_from}
use Rattle.micro_m.specs.declared.base.Base.{Base}
use Rattle.micro_m.specs.Values.{Environment, environment}
use Rattle.mpp_inline.proofs.BeginLemmas.{start-long}
use Rattle.why_report.specs.Derivations.{IsFindingOf, IsFirstUnsound}
use Rattle.why_report.specs.Reports.{parsed_report}
use Rattle.why_report.specs.declared.fault.ReportFault.{ReportFault}
use Rattle.why_report.specs.declared.line.ReportLine.{ReportLine}
use Rattle.why_report.proofs.FindingLaws.{part-derived}
use Rattle.why_report.proofs.ListLemmas.{reported-few}
use Rattle.driver_core.specs.Inputs.{inputs_declared}
use Rattle.m_compile.specs.Faults.{IsBaseFault}
use Rattle.m_compile.specs.Lines.{source_line}
use Rattle.m_compile.specs.Sources.{HasRules}
use Rattle.m_compile.specs.declared.fault.SourceFault.{SourceFault}
use Rattle.command_plans.specs.Printing.{IsAnswered, Prints, printed, no_memory}
use Rattle.command_plans.specs.Views.{OutputView}
use Rattle.command_plans.specs.declared.status.Status.{Status}
use Rattle.command_plans.specs.declared.status.Status.TheVariants.{Refused}
use Rattle.rule_answers.specs.Checks.{CheckReplies, ReportReplies, household_is_refused, is_checked, is_sound, is_unsound, report_fault_line, report_is_refused}
use Rattle.rule_answers.specs.Checks.{rules_are_refused}
use Rattle.code_answers.specs.Households.{household_fault_line}
use Rattle.rule_answers.specs.inner.Checking.{IsStart, LinesReplies, SaidReplies, found_status, found_text, refused, sound, reported, unsound}
use Rattle.code_answers.proofs.Refusals.{ReportsRefusal}
use Rattle.code_answers.proofs.Ways.{answered_as}

-- ---- the rules

pub check_refused : (source : Source) (rows report : List ℕ) (fault : SourceFault) (old new : OutputView) (status : Status)
    → ReportsRefusal (λ line. IsBaseFault source.texts source.application fault × (source_line source.texts fault ≡ Some line)) old new status
    → IsAnswered (CheckReplies source rows report) old new status
check_refused source rows report fault old new status (inl (line, is, shown)) = printed line Refused (rules_are_refused fault is.0 is.1) tt shown
check_refused source rows report fault old new status (inr (same, memory)) = no_memory same memory

pub check_answered : (source : Source) (rows report : List ℕ) (declared : Declared) (base : Base) (old new : OutputView) (status : Status)
    → HasRules source declared base
    → IsAnswered (ReportReplies declared base rows report) old new status → IsAnswered (CheckReplies source rows report) old new status
check_answered source rows report declared base old new status rules a =
    answered_as (ReportReplies declared base rows report) (CheckReplies source rows report) old new status
    (λ text own replied. is_checked declared base rules replied) a

-- ---- the household

pub rows_are_refused : (declared : Declared) (base : Base) (rows report : List ℕ) (fault : HouseholdFault) (old new : OutputView) (status : Status)
    → ReportsRefusal (λ line. (household_of (inputs_declared declared) rows ≡ Err fault) × (household_fault_line fault ≡ Some line)) old new status
    → IsAnswered (ReportReplies declared base rows report) old new status
rows_are_refused declared base rows report fault old new status (inl (line, is, shown)) = printed line Refused (household_is_refused fault is.0 is.1) tt shown
rows_are_refused declared base rows report fault old new status (inr (same, memory)) = no_memory same memory

started_as : (declared : Declared) (base : Base) (rows report : List ℕ) (env : List Value) → IsStart declared rows env → (text : List ℕ) (own : Status)
    → SaidReplies declared base (environment env) report text own → ReportReplies declared base rows report text own
started_as declared base rows report env is text own (refused fault stated line) = report_is_refused is.pairs fault is.given stated line
started_as declared base rows report env is text own (reported lines stated (unsound position first)) =
    is_unsound is.pairs lines position is.given stated (subst (λ vs. IsFirstUnsound base (environment vs) lines position) is.begins first)
started_as declared base rows report env is text own (reported lines stated (sound all)) =
    is_sound is.pairs lines is.given stated (rw is.begins at all)

pub start_answered : (declared : Declared) (base : Base) (rows report : List ℕ) (env : List Value) (old new : OutputView) (status : Status)
    → IsStart declared rows env
    → IsAnswered (SaidReplies declared base (environment env) report) old new status → IsAnswered (ReportReplies declared base rows report) old new status
start_answered declared base rows report env old new status is a =
    answered_as (SaidReplies declared base (environment env) report) (ReportReplies declared base rows report) old new status
    (started_as declared base rows report env is) a

-- as many values as cells
pub start_many : (declared : Declared) (rows : List ℕ) (env : List Value) → IsStart declared rows env → length env ≡ length (owners_from 0 declared.variables)
start_many declared rows env is = ap length is.begins ∙ start-long (values_of is.pairs (length (inputs_declared declared))) 0 0 declared.variables

-- ---- the report

pub report_refused : (declared : Declared) (base : Base) (given : Environment) (report : List ℕ) (fault : ReportFault) (old new : OutputView) (status : Status)
    → ReportsRefusal (λ line. (parsed_report declared report ≡ Err fault) × (report_fault_line fault ≡ Some line)) old new status
    → IsAnswered (SaidReplies declared base given report) old new status
report_refused declared base given report fault old new status (inl (line, is, shown)) = printed line Refused (refused fault is.0 is.1) tt shown
report_refused declared base given report fault old new status (inr (same, memory)) = no_memory same memory

pub report_answered : (declared : Declared) (base : Base) (given : Environment) (report : List ℕ) (lines : List ReportLine) (old new : OutputView)
    (status : Status) → parsed_report declared report ≡ Ok lines
    → IsAnswered (LinesReplies base given lines) old new status → IsAnswered (SaidReplies declared base given report) old new status
report_answered declared base given report lines old new status stated a =
    answered_as (LinesReplies base given lines) (SaidReplies declared base given report) old new status (λ text own replied. reported lines stated replied) a

-- the result over the lines was printed
pub found_answered : (base : Base) (given : Environment) (lines : List ReportLine) (found : Option ℕ) (old new : OutputView) (status : Status)
    → IsFindingOf base given lines found
    → Prints (found_text found) (found_status found) old new status → IsAnswered (LinesReplies base given lines) old new status
found_answered base given lines None old new status is shown = printed (found_text None) (found_status None) (sound is) tt shown
found_answered base given lines (Some position) old new status is shown = printed (found_text (Some position)) (found_status (Some position))
    (unsound position is) tt shown

-- the number of a line that isn't sound
few_lines : (base : Base) (given : Environment) (lines : List ReportLine) (position : ℕ) → base.cells ≤ CELLS → All (λ line. line.cell < base.cells) lines
    → IsFirstUnsound base given lines position → position ≤ CELLS
few_lines base given lines position few cells first =
    let within = first.within in
    let below = reported-few base given lines position (λ p h. part-derived base given lines position p (omega (arith, within)) first.sound_before h)
    (omega (arith, within)) cells in
    omega (arith, few, below)

pub few_found : (base : Base) (given : Environment) (lines : List ReportLine) (found : Option ℕ) → base.cells ≤ CELLS
    → All (λ line. line.cell < base.cells) lines → IsFindingOf base given lines found
    → IfSome found (λ position. position ≤ CELLS)
few_found base given lines None few cells is = tt
few_found base given lines (Some position) few cells is = few_lines base given lines position few cells is
