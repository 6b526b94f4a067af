-- The lines of a reason can be read, and their explanation is sound.
use Rattle.std.proofs.Common.{◌≡◌, ℕ, ◌<◌, ℤ, List, [], ◌∷◌, length, codes, Some, Ok, sym, ap, ◌∙◌, subst}
use Rattle.std.specs.List.{AllByRecursion}
use Rattle.std.specs.Option.{option_map_or}
use Rattle.std.proofs.lemmas.List.Elements.{recursion_from_All}
use Rattle.m_fixed.specs.declared.amount.Value.{Value}
use Rattle.m_fixed.specs.Laws.{IsValue}
use Rattle.household.specs.Household.{household_of, values_of}
use Rattle.household_session.specs.Sessions.{line}
use Rattle.m_places.specs.declared.source.Source.{Source}
use Rattle.m_symbols.specs.Declarations.{Declared}
use Rattle.m_symbols.specs.Cells.{request_cell}
use Rattle.micro_m.specs.declared.base.Base.{Base}
use Rattle.micro_m.specs.Bases.{IsValidBase}
use Rattle.micro_m.specs.Values.{Environment, environment, value_of}
use Rattle.driver_core.specs.Answers.{start_of}
use Rattle.driver_core.specs.Inputs.{inputs_declared}
use Rattle.why_report.specs.declared.line.ReportLine.{ReportLine}
use Rattle.why_report.specs.Derivations.{reported_cells}
use Rattle.why_report.specs.Reasons.{AreNeededBy, IsReasonOf}
use Rattle.why_report.proofs.MeaningLemmas.{sound-values}
use Rattle.why_report.proofs.ReadLemmas.{Reads-within}
use Rattle.why_session.specs.Explains.{Explaining, report_lines_of}
use Rattle.m_compile.specs.Sources.{HasRules}
use Rattle.m_compile.proofs.OneLaws.{one_rules}
use Rattle.command_plans.specs.declared.status.Status.TheVariants.{Done}
use Rattle.rule_answers.specs.Checks.{CheckReplies, is_checked, is_sound, sound_line}
use Rattle.command_answers.specs.Explained.{IsExplained}
use Rattle.report_laws.specs.Readable.{CanBeRead}
use Rattle.report_laws.proofs.Operators.{cell_value}
use Rattle.report_laws.proofs.Printed.{reported_back}
use Rattle.report_laws.proofs.Starts.{start_is_values, household_values}
use Rattle.report_laws.proofs.Sources.{IsOfRules, of_rules}

-- ---- the cells of a reason

needed_below : (base : Base) (c : ℕ) (cells : List ℕ) → IsValidBase base → c < base.cells → AreNeededBy base c cells
    → AllByRecursion (λ d. d < base.cells) cells
needed_below base c [] valid low h = tt
needed_below base c (d ∷ []) valid low h = (subst (λ n. n < base.cells) (sym h) low, tt)
needed_below base c (d ∷ x ∷ later) valid low h = (Reads-within base h.0.0 d valid h.0.2, needed_below base c (x ∷ later) valid low h.1)

-- ---- the lines of a reason

lines_readable : (declared : Declared) (base : Base) (given : Environment) → IsOfRules declared base → ((c : ℕ) → IsValue (value_of base given c))
    → (lines : List ReportLine)
    → AllByRecursion (λ d. d < base.cells) (reported_cells lines) → AllByRecursion (λ line. line.value ≡ value_of base given line.cell) lines
    → AllByRecursion (CanBeRead declared) lines
lines_readable declared base given is values [] low h = tt
lines_readable declared base given is values (line ∷ lines) low h = (
  record { named = is.named line.cell low.0; inside = is.inside line.cell low.0; value = subst IsValue (sym h.0) (values line.cell) },
  lines_readable declared base given is values lines low.1 h.1,
)

pub reason_readable : (source : Source) (declared : Declared) (base : Base) (values : List Value) (c : ℕ) (lines : List ReportLine)
    → HasRules source declared base → AllByRecursion IsValue values → c < base.cells
    → IsReasonOf base (environment (start_of declared values)) c lines → AllByRecursion (CanBeRead declared) lines
reason_readable source declared base values c lines rules amounts low reason =
    let is = of_rules source declared base rules in
    let given : Environment = environment (start_of declared values) in
    lines_readable declared base given is (cell_value base given is.made.amounts (start_is_values declared values amounts is.constants)) lines
    (needed_below base c (reported_cells lines) is.made.valid low reason.needed)
    (recursion_from_All (λ line. line.value ≡ value_of base given line.cell) lines (sound-values base given lines reason.sound))

-- ---- the explanation

observation_by : (source : Source) (explains : Explaining) (is : IsExplained source explains) (rows name : List ℕ) (pairs : List (ℕ × ℤ)) (c : ℕ)
    → household_of (inputs_declared is.declared) rows ≡ Ok pairs → request_cell is.declared name ≡ Some c
    → CheckReplies source rows (explains (values_of pairs (length (inputs_declared is.declared))) name) sound_line Done
observation_by source explains is rows name pairs c given wanted =
    let declared = is.declared in
    let values = values_of pairs (length (inputs_declared declared)) in
    let lines = is.lines values c in
    let low = (of_rules source declared is.base is.rules).known name c wanted in
    let reason = is.reasons values c low in
    let readable = reason_readable source declared is.base values c lines is.rules
    (household_values (inputs_declared declared) rows pairs (length (inputs_declared declared)) given) low reason in
    let text : explains values name ≡ report_lines_of declared lines
    = is.stated values name ∙ ap (λ cell. option_map_or (λ d. report_lines_of declared (is.lines values d)) cell (line (codes "refused unknown variable")))
    wanted in
    subst (λ reported. CheckReplies source rows reported sound_line Done) (sym text)
    (is_checked declared is.base is.rules (is_sound pairs lines given (reported_back declared lines readable) reason.sound))

pub reported_sound : (source : Source) (explains : Explaining) (declared : Declared) (base : Base) (rows name : List ℕ) (pairs : List (ℕ × ℤ)) (c : ℕ)
    → IsExplained source explains → HasRules source declared base
    → household_of (inputs_declared declared) rows ≡ Ok pairs → request_cell declared name ≡ Some c
    → CheckReplies source rows (explains (values_of pairs (length (inputs_declared declared))) name) sound_line Done
reported_sound source explains declared base rows name pairs c is rules =
    subst
    (λ (d : Declared). household_of (inputs_declared d) rows ≡ Ok pairs → request_cell d name ≡ Some c
    → CheckReplies source rows (explains (values_of pairs (length (inputs_declared d))) name) sound_line Done)
    (one_rules source is.declared declared is.base base is.rules rules).0
    (observation_by source explains is rows name pairs c)
