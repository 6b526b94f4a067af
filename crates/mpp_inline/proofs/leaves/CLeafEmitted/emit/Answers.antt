use Rattle.std.proofs.Common.{◌+◌, ◌*◌, ◌<◌, ◌≤◌, length, ap, arith}
use Rattle.std.proofs.lemmas.Result.{on_ok_weaker}
use Rattle.driver_core.specs.Leaves.{leaf_tree}
use Rattle.driver_core.specs.Weights.{tree_weight}
use Rattle.driver_core.proofs.SumLemmas.{present-weight}
use Rattle.mpp_inline.specs.inner.Sizes.{load}
use Rattle.mpp_inline.proofs.leaves.CLeafEmitted.emit.Goals as goal

pub emit_exists-requires : goal.emit_exists-requires
emit_exists-requires c = omega (arith, c.requires, present-weight c.in-Exists.kind, ap (λ l. tree_weight (leaf_tree l)) c.in-Exists.is)

pub returns-in-Exists-clause-size : goal.returns-in-Exists-clause-size
returns-in-Exists-clause-size c =
    let b = load c.args.b.now in
    let d = load c.emit_exists.new.b in
    on_ok_weaker c.emit_exists.result
    (λ (m : d ≤ b + length c.in-Exists.kind).
    let goal' : d < b + 2 * tree_weight (leaf_tree c.args.self.now) =
    omega (arith, m, present-weight c.in-Exists.kind, ap (λ l. tree_weight (leaf_tree l)) c.in-Exists.is) in goal')
    c.emit_exists.ensures.size
