use Rattle.std.proofs.Common.{◌<◌, length, rules}
use Rattle.register_alloc.specs.Width.{reads}
use Rattle.register_alloc.proofs.LastLemmas.{last-more-at}
use Rattle.register_alloc.proofs.task.last_by_node.Goals as goal

pub loop-i-preserved : goal.loop-i-preserved
loop-i-preserved c =
    let below : c.loop-i.i < length c.args.flat.now.nodes = search rules in
    last-more-at reads c.args.flat.now.nodes c.loop-i.i _ c.node_of.result _ c.loop-i.last.items _ below c.node_of.ensures c.loop-i.invariant
    c.note_node.ensures.len c.note_node.ensures.noted
