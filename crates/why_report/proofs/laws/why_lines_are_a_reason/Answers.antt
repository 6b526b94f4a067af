use Rattle.why_report.proofs.ReasonLemmas.{why-reason}
use Rattle.why_report.proofs.laws.why_lines_are_a_reason.Goals as goal

pub returns : goal.returns
returns c = why-reason
