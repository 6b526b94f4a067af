use Rattle.report_laws.proofs.Printed.{printed_back, reported_back}
use Rattle.report_laws.proofs.laws.printed_reports_read_back.Goals as goal

pub returns-clause-printed : goal.returns-clause-printed
returns-clause-printed c = printed_back

pub returns-clause-reported : goal.returns-clause-reported
returns-clause-reported c = reported_back
