use Rattle.rule_order.proofs.OrderLemmas.{ordered-free}
use Rattle.rule_order.proofs.laws.ordered_has_no_cycle.Goals as goal

pub returns : goal.returns
returns c = ordered-free
