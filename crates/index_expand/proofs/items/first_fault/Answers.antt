use Rattle.std.proofs.Common.{◌+◌, drop, ap, sym, ◌∙◌}
use Rattle.std.specs.Prelude.{filter}
use Rattle.std.specs.List.{flat_map}
use Rattle.index_expand.specs.Expansion.{counts_in}
use Rattle.index_expand.specs.LoopFaults.{item_faults, least}
use Rattle.index_expand.proofs.FaultLemmas.{counted_yes, counted_no}
use Rattle.index_expand.proofs.items.first_fault.Goals as goal
use Rattle.index_expand.proofs.items.first_fault.Goals.{then-counts_in, else-counts_in}

pub loop-item-preserved : goal.loop-item-preserved
loop-item-preserved c =
    let p = counts_in c.args.application.now in
    elim c.if-counts_in.branch [
      | then-counts_in w ↦
          counted_yes p item_faults c.args.items.now c.loop-item.item-index c.item-item.result c.loop-item.first c.if-counts_in.first _ c.loop-item-test.true
          c.item-item.is
          (sym c.counts_in.ensures ∙ w.if-counts_in.true) c.loop-item.invariant (w.first-is ∙ w.with_item-first.ensures)
      | else-counts_in w ↦
          ap (λ first. least first (flat_map item_faults (filter p (drop (c.loop-item.item-index + 1) c.args.items.now)))) w.first-is
          ∙ counted_no p item_faults c.args.items.now c.loop-item.item-index c.item-item.result c.loop-item.first _ c.loop-item-test.true c.item-item.is
          (sym c.counts_in.ensures ∙ w.if-counts_in.false) c.loop-item.invariant
    ]
