use Rattle.std.proofs.Common.{ap, arith}
use Rattle.driver_core.specs.Leaves.{leaf_tree}
use Rattle.driver_core.specs.Weights.{tree_weight}
use Rattle.driver_core.proofs.SumLemmas.{present-weight}
use Rattle.driver_core.proofs.weigh_base.CLeafWeighed.weigh.Goals as goal

pub returns-in-Exists : goal.returns-in-Exists
returns-in-Exists c = omega (
  arith,
  c.saturating_add.ensures,
  c.saturating_mul.ensures,
  c.len.ensures,
  present-weight c.in-Exists.cells,
  ap (λ l. tree_weight (leaf_tree l)) c.in-Exists.is,
)
