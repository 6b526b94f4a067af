use Rattle.std.proofs.Common.{sym, arith}
use Rattle.driver_core.proofs.SumLemmas.{read-some, read-none}
use Rattle.driver_core.proofs.weigh_base.read_at.Goals as goal

pub returns-in-Some : goal.returns-in-Some
returns-in-Some g c = omega (
  arith,
  c.saturating_add.ensures,
  read-some g.L.Leaf.leaf_tree c.args.size c.args.index.now c.args.weight _ (sym c.in-Some.ensures),
)

pub returns-in-None : goal.returns-in-None
returns-in-None g c = omega (
  arith,
  c.saturating_add-in-None.ensures,
  c.saturating_add-in-None-2.ensures,
  read-none g.L.Leaf.leaf_tree g.L.Leaf.leaf_reads c.args.size c.args.index.now c.args.weight (sym c.in-None.ensures),
)
