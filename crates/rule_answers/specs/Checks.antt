-- The answer of `check`.
use Rattle.std.specs.Prelude.{◌≡◌, ℕ, ◌+◌, ℤ, List, [], ◌∷◌, length, codes, Option, None, Some, Ok, Err}
use Rattle.m_text.specs.Pieces.{joined, new_line}
use Rattle.tax_print.specs.FaultLines.{at_line}
use Rattle.m_places.specs.declared.source.Source.{Source}
use Rattle.household.specs.Household.{household_of, values_of}
use Rattle.household.specs.declared.fault.HouseholdFault.{HouseholdFault}
use Rattle.m_symbols.specs.Declarations.{Declared}
use Rattle.micro_m.specs.declared.base.Base.{Base}
use Rattle.micro_m.specs.Values.{Environment, environment}
use Rattle.driver_core.specs.Answers.{start_of}
use Rattle.why_report.specs.Derivations.{IsFirstUnsound, IsSound}
use Rattle.why_report.specs.Reports.{parsed_report}
use Rattle.why_report.specs.declared.fault.ReportFault.{ReportFault}
use Rattle.why_report.specs.declared.fault.ReportFault.TheVariants.{BadLine, Memory}
use Rattle.why_report.specs.declared.line.ReportLine.{ReportLine}
use Rattle.driver_core.specs.Inputs.{inputs_declared}
use Rattle.m_compile.specs.Faults.{IsBaseFault}
use Rattle.m_compile.specs.Lines.{source_line}
use Rattle.m_compile.specs.Sources.{HasRules}
use Rattle.m_compile.specs.declared.fault.SourceFault.{SourceFault}
use Rattle.command_plans.specs.declared.status.Status.{Status}
use Rattle.command_plans.specs.declared.status.Status.TheVariants.{Done, Refused}
use Rattle.code_answers.specs.Households.{household_fault_line}

-- The line of a fault of a report; none for out of memory. A malformed second line has `refused report line 2: bad
-- line`.
abbrev pub report_fault_line : ReportFault → Option (List ℕ)
report_fault_line (BadLine number) = Some (at_line (codes "report") number (codes "bad line"))
report_fault_line Memory = None

-- the line of a derivation whose line at this position isn't sound: `refused report line 2: not sound`
abbrev pub unsound_line : ℕ → List ℕ
unsound_line position = at_line (codes "report") (position + 1) (codes "not sound")

-- the line of a derivation that is sound
abbrev pub sound_line : List ℕ
sound_line = joined (codes "sound" ∷ new_line ∷ [])

-- the value that each cell starts with, given the declarations and the pairs of a household
abbrev pub given_by : Declared → List (ℕ × ℤ) → Environment
given_by declared pairs = environment (start_of declared (values_of pairs (length (inputs_declared declared))))

-- The answer to the household and the report of these bytes, over declarations and a base: the line of the first fault
-- of the household or of the report; or the number, from 1, of the report's first line that isn't sound; or that the
-- report is sound.
pub data ReportReplies (declared : Declared) (base : Base) (rows report : List ℕ) : List ℕ → Status → Type 0 where
  household_is_refused : {line : List ℕ} (fault : HouseholdFault) → household_of (inputs_declared declared) rows ≡ Err fault
      → household_fault_line fault ≡ Some line
      → ReportReplies declared base rows report line Refused
  report_is_refused : {line : List ℕ} (pairs : List (ℕ × ℤ)) (fault : ReportFault) → household_of (inputs_declared declared) rows ≡ Ok pairs
      → parsed_report declared report ≡ Err fault → report_fault_line fault ≡ Some line → ReportReplies declared base rows report line Refused
  is_unsound : (pairs : List (ℕ × ℤ)) (lines : List ReportLine) (position : ℕ) → household_of (inputs_declared declared) rows ≡ Ok pairs
      → parsed_report declared report ≡ Ok lines → IsFirstUnsound base (given_by declared pairs) lines position
      → ReportReplies declared base rows report (unsound_line position) Refused
  is_sound : (pairs : List (ℕ × ℤ)) (lines : List ReportLine) → household_of (inputs_declared declared) rows ≡ Ok pairs
      → parsed_report declared report ≡ Ok lines → IsSound base (given_by declared pairs) lines → ReportReplies declared base rows report sound_line Done

-- The answer of a check of the rules of a source (its driver and requests aren't used): the line of the fault of its
-- rule files, or the answer over their declarations and the base of their rules.
pub data CheckReplies (source : Source) (rows report : List ℕ) : List ℕ → Status → Type 0 where
  rules_are_refused : {line : List ℕ} (fault : SourceFault) → IsBaseFault source.texts source.application fault → source_line source.texts fault ≡ Some line
      → CheckReplies source rows report line Refused
  is_checked : {text : List ℕ} {status : Status} (declared : Declared) (base : Base) → HasRules source declared base
      → ReportReplies declared base rows report text status
      → CheckReplies source rows report text status

-- rules without a fault, a household without one, and a report that is a sound derivation
pub record CheckHasAnswer (source : Source) (rows report : List ℕ) : Type 0 where
  pub declared : Declared
  pub base : Base
  pub rules : HasRules source declared base
  pub pairs : List (ℕ × ℤ)
  pub given : household_of (inputs_declared declared) rows ≡ Ok pairs
  pub lines : List ReportLine
  pub stated : parsed_report declared report ≡ Ok lines
  pub sound : IsSound base (given_by declared pairs) lines
