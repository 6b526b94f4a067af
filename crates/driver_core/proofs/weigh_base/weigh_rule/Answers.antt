use Rattle.std.proofs.Common.{ap, ◌∙◌}
use Rattle.micro_m.proofs.LeafLemmas.{written-same}
use Rattle.driver_core.specs.Weights.{tree_weight}
use Rattle.driver_core.specs.inner.Capped.{capped}
use Rattle.driver_core.proofs.weigh_base.weigh_rule.Goals as goal

pub returns : goal.returns
returns c = c.weigh_tree.ensures ∙ ap (λ t. capped (tree_weight t)) (written-same c.args.term.now)
