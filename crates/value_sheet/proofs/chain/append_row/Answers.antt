use Rattle.std.proofs.Common.{◌+◌, ◌++◌, get_or, ap, sym, subst, arith}
use Rattle.value_sheet.specs.inner.EdgeChain.{IsNext}
use Rattle.value_sheet.proofs.ChainLemmas.{sourced_next, row_more}
use Rattle.value_sheet.proofs.chain.append_row.Goals as goal

pub loop-edge-init : goal.loop-edge-init
loop-edge-init c =
    let first = c.requires.chain.first c.args.source c.requires.source in
    record {
      rest = ap (λ ts. c.args.targets.now.items ++ ts) (sym (sourced_next c.args.per c.args.source 0 _ c.args.sources.now first));
      within = first.within;
      is = first.is;
    }

pub loop-edge-preserved : goal.loop-edge-preserved
loop-edge-preserved c =
    let lt = c.loop-edge-test.true in
    let own = c.loop-edge.invariant.is lt in
    let next = subst (λ y. IsNext c.args.sources.now y (c.loop-edge.edge + 1) (get_or c.args.nexts.now c.loop-edge.edge 0)) own
    (c.requires.chain.next c.loop-edge.edge (omega arith) lt (omega (arith, own, c.requires.source))) in
    record {
      rest = row_more c.args.per c.args.source c.loop-edge.edge _ c.args.sources.now c.loop-edge.targets.items c.push.new.self.items _ lt own next
          c.in_ok-push.ensures.items c.loop-edge.invariant.rest;
      within = next.within;
      is = next.is;
    }
