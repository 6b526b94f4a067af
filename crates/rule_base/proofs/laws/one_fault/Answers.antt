use Rattle.rule_base.proofs.OneLaws.{one_fault}
use Rattle.rule_base.proofs.laws.one_fault.Goals as goal

pub returns : goal.returns
returns c = one_fault
