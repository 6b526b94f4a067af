-- Errors of sources and reports that were reported.
use Rattle.std.proofs.Common.{◌≡◌, Some, refl, ap}
use Rattle.std.specs.Prelude.{◌≢◌}
use Rattle.m_places.specs.declared.source.Source.{Source}
use Rattle.why_report.specs.declared.fault.ReportFault.{ReportFault}
use Rattle.why_report.specs.declared.fault.ReportFault.TheVariants as report
use Rattle.m_compile.specs.Faults.{IsBaseFault, IsSourceFault}
use Rattle.m_compile.specs.Lines.{source_line}
use Rattle.m_compile.specs.declared.fault.SourceFault.{SourceFault}
use Rattle.m_compile.specs.declared.fault.SourceFault.TheVariants as source
use Rattle.command_plans.specs.Views.{OutputView}
use Rattle.command_plans.specs.declared.status.Status.{Status}
use Rattle.rule_answers.specs.Checks.{report_fault_line}
use Rattle.code_answers.specs.inner.Refusals.{ReportsLine}
use Rattle.code_answers.proofs.Refusals.{ReportsRefusal, reported_either}

-- a source was rejected by a fault
pub fault_reported : (s : Source) (fault : SourceFault) (old new : OutputView) (status : Status) → (fault ≢ source.Memory → IsSourceFault s fault)
    → ReportsLine (source_line s.texts fault) old new status → ReportsRefusal (λ line. IsSourceFault s fault × (source_line s.texts fault ≡ Some line)) old new
    status
fault_reported s fault old new status h reported = reported_either (source_line s.texts fault) (source_line s.texts fault) old new status refl h
    (λ m. ap (source_line s.texts) m) reported

-- the rules of a source were rejected by a fault
pub base_reported : (s : Source) (fault : SourceFault) (old new : OutputView) (status : Status)
    → (fault ≢ source.Memory → IsBaseFault s.texts s.application fault)
    → ReportsLine (source_line s.texts fault) old new status
    → ReportsRefusal (λ line. IsBaseFault s.texts s.application fault × (source_line s.texts fault ≡ Some line)) old new status
base_reported s fault old new status h reported = reported_either (source_line s.texts fault) (source_line s.texts fault) old new status refl h
    (λ m. ap (source_line s.texts) m) reported

-- a report was rejected by a fault
pub report_reported : {IsFault : Type 0} (fault : ReportFault) (old new : OutputView) (status : Status) → (fault ≢ report.Memory → IsFault)
    → ReportsLine (report_fault_line fault) old new status → ReportsRefusal (λ line. IsFault × (report_fault_line fault ≡ Some line)) old new status
report_reported fault old new status h reported = reported_either (report_fault_line fault) (report_fault_line fault) old new status refl h
    (λ m. ap report_fault_line m) reported
