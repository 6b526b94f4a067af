use Rattle.std.proofs.Common.{◌≡◌, ◌-◌, ◌<◌, ◌≤◌, true, length, rules, arith, sym, ◌∙◌, subst}
use Rattle.flat_code.specs.Entries.{node_at}
use Rattle.flat_code.specs.Tidy.{Reads}
use Rattle.flat_code.proofs.ReadLemmas.{are-valid}
use Rattle.dead_rules.specs.inner.Steps.{ReadsBelow, Marks, is_live}
use Rattle.dead_rules.proofs.MarkLemmas.{closed-step, reads-below, below-more, node-read}
use Rattle.dead_rules.proofs.mark.mark_back.Goals as goal

pub mark_arguments-requires : goal.mark_arguments-requires
mark_arguments-requires c =
    let flat = c.args.flat.now in
    let p = c.loop-p.p in
    let some : 0 < p = search rules in
    let within : p ≤ length flat.nodes = c.loop-p.invariant.within in
    let lt : p - 1 < length flat.nodes = omega arith in
    let size : length c.loop-p.live ≡ length flat.nodes = c.loop-p.invariant.closed.size ∙ c.requires.size in
    let le : p - 1 ≤ length c.loop-p.live = omega arith in
    let node = node-read flat.nodes c.as_slice-nodes.result.now (p - 1) c.index-nodes-p.result c.as_slice-nodes.ensures lt c.index-nodes-p.is in
    subst (ReadsBelow (length c.loop-p.live)) (sym node)
    (below-more (p - 1) (length c.loop-p.live) (node_at flat.nodes (p - 1)) le
    (reads-below flat.inputs (p - 1) (node_at flat.nodes (p - 1)) (are-valid flat.inputs flat.nodes c.requires.valid.nodes (p - 1) lt)))

pub loop-p-preserved-then-live-p : goal.loop-p-preserved-then-live-p
loop-p-preserved-then-live-p c =
    let flat = c.args.flat.now in
    let p = c.loop-p.p in
    let some : 0 < p = search rules in
    let within : p ≤ length flat.nodes = c.loop-p.invariant.within in
    let lt : p - 1 < length flat.nodes = omega arith in
    let node = node-read flat.nodes c.as_slice-nodes.result.now (p - 1) c.index-nodes-p.result c.as_slice-nodes.ensures lt c.index-nodes-p.is in
    let live : is_live c.loop-p.live (p - 1) ≡ true = search rules in
    record {
      within = omega arith;
      closed = closed-step flat p c.args.live.now c.loop-p.live c.mark_arguments.new.live c.requires.valid some within c.loop-p.invariant.closed live
          (subst (λ n. Marks (Reads n) c.loop-p.live c.mark_arguments.new.live) node c.mark_arguments.ensures);
    }
