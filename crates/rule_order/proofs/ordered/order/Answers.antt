use Rattle.rule_order.proofs.OrderLemmas.{ordered-free}
use Rattle.rule_order.proofs.ordered.order.Goals as goal

pub returns-clause-no_cycle : goal.returns-clause-no_cycle
returns-clause-no_cycle c = ordered-free c.args.base c.in_ok-sequence.sequence.items c.requires c.in_ok-sequence.ensures.outcome
