use Rattle.std.proofs.Common.{◌≡◌, ◌+◌, length, refl, ap, subst, ◌∙◌, arith}
use Rattle.std.proofs.lemmas.Option.{slice_get_read}
use Rattle.flat_code.specs.Runs.{IsNode}
use Rattle.flat_code.proofs.RunLemmas.{node_at}
use Rattle.flat_code.proofs.run.values_of.Goals as goal

pub value_of-value-requires : goal.value_of-value-requires
value_of-value-requires c =
    let i = c.loop-node.node-index in
    let nodes = c.args.nodes.now in
    let so_many : length c.deref.result.now ≡ c.loop-node.node-index = ap length c.deref.ensures.value ∙ c.loop-node.invariant.1 in
    let place : 0 + c.loop-node.node-index ≡ length c.deref.result.now = omega (arith, so_many) in
    subst (λ k. IsNode (length c.args.inputs.now) k c.node-item.result) place
    (node_at (length c.args.inputs.now) 0 nodes i c.node-item.result c.requires
    (slice_get_read nodes (length nodes) i c.node-item.result refl c.loop-node-test.true c.node-item.is))
