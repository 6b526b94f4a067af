use Rattle.rule_base.proofs.OneLaws.{no_base_and_fault}
use Rattle.rule_base.proofs.laws.no_base_and_fault.Goals as goal

pub returns : goal.returns
returns c = no_base_and_fault
