use Rattle.std.proofs.Common.{◌≡◌, ◌+◌, ◌∙◌, suc, arith, ap, sym}
use Rattle.household.specs.inner.Cuts.{left_at}
use Rattle.household.proofs.CutLemmas.{at_end, over_empty, over_line}
use Rattle.household.proofs.cuts.record_end.Goals as goal

pub returns-then-end-at : goal.returns-then-end-at
returns-then-end-at c =
    let over = over_line c.args.bytes.now c.loop-at.at c.line_end-end.result c.requires.quote (omega arith) c.line_end-end.ensures.within
    c.line_end-end.ensures.line in
    (over.0, (over.1.0, sym c.loop-at.invariant ∙ over.1.1))

pub loop-at-preserved : goal.loop-at-preserved
loop-at-preserved c =
    let same : c.line_end-end.result ≡ c.loop-at.at = omega (arith, c.line_end-end.ensures.forward) in
    let next : suc c.loop-at.at ≡ c.loop-at.at + 1 = omega arith in
    ap (left_at c.args.bytes.now) (sym next) ∙ over_empty c.args.bytes.now c.loop-at.at c.line_end-end.result c.loop-at-test.true same
    c.line_end-end.ensures.line ∙ c.loop-at.invariant

pub returns : goal.returns
returns c = sym c.loop-at.invariant ∙ at_end c.args.bytes.now c.loop-at.at (omega arith)
