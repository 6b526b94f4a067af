-- The answer to a report, over the values that cells start with.
use Rattle.std.specs.Prelude.{◌≡◌, ℕ, ℤ, List, length, Option, None, Some, Ok, Err}
use Rattle.m_fixed.specs.declared.amount.Value.{Value}
use Rattle.household.specs.Household.{household_of, values_of}
use Rattle.m_symbols.specs.Declarations.{Declared}
use Rattle.micro_m.specs.declared.base.Base.{Base}
use Rattle.micro_m.specs.Values.{Environment}
use Rattle.driver_core.specs.Answers.{start_of}
use Rattle.why_report.specs.Derivations.{IsFirstUnsound, IsSound}
use Rattle.why_report.specs.Reports.{parsed_report}
use Rattle.why_report.specs.declared.fault.ReportFault.{ReportFault}
use Rattle.why_report.specs.declared.line.ReportLine.{ReportLine}
use Rattle.driver_core.specs.Inputs.{inputs_declared}
use Rattle.command_plans.specs.declared.status.Status.{Status}
use Rattle.command_plans.specs.declared.status.Status.TheVariants.{Done, Refused}
use Rattle.rule_answers.specs.Checks.{report_fault_line, sound_line, unsound_line}

-- the household of these bytes has no fault, and gives the cells these start values
pub record IsStart (declared : Declared) (rows : List ℕ) (env : List Value) : Type 0 where
  pub pairs : List (ℕ × ℤ)
  pub given : household_of (inputs_declared declared) rows ≡ Ok pairs
  pub begins : env ≡ start_of declared (values_of pairs (length (inputs_declared declared)))

-- the line that reports the result: the number of the first line that isn't sound, or that all are sound
abbrev pub found_text : Option ℕ → List ℕ
found_text None = sound_line
found_text (Some position) = unsound_line position

abbrev pub found_status : Option ℕ → Status
found_status None = Done
found_status (Some position) = Refused

-- the answer to a report's lines
pub data LinesReplies (base : Base) (given : Environment) (lines : List ReportLine) : List ℕ → Status → Type 0 where
  unsound : (position : ℕ) → IsFirstUnsound base given lines position → LinesReplies base given lines (unsound_line position) Refused
  sound : IsSound base given lines → LinesReplies base given lines sound_line Done

-- the answer to a report
pub data SaidReplies (declared : Declared) (base : Base) (given : Environment) (report : List ℕ) : List ℕ → Status → Type 0 where
  refused : {line : List ℕ} (fault : ReportFault) → parsed_report declared report ≡ Err fault → report_fault_line fault ≡ Some line
      → SaidReplies declared base given report line Refused
  reported : {text : List ℕ} {status : Status} (lines : List ReportLine) → parsed_report declared report ≡ Ok lines → LinesReplies base given lines text status
      → SaidReplies declared base given report text status
