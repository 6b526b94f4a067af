use Rattle.report_laws.proofs.Reasons.{reason_readable}
use Rattle.report_laws.proofs.laws.reasons_can_be_read.Goals as goal

pub returns : goal.returns
returns c = reason_readable
