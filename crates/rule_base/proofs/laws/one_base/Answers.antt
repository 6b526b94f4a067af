use Rattle.rule_base.proofs.OneLaws.{one_base}
use Rattle.rule_base.proofs.laws.one_base.Goals as goal

pub returns : goal.returns
returns c = one_base
