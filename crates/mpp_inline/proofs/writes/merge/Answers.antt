use Rattle.std.proofs.Common.{◌≡◌, ◌+◌, [], ◌∷◌, drop, get_or, length, sym, ap, ◌∙◌, subst, arith}
use Rattle.std.proofs.lemmas.List.{drop_more, drop_all}
use Rattle.m_fixed.specs.declared.operator.Op.TheVariants.{Choose}
use Rattle.flat_code.specs.declared.program.Node.TheVariants.{Do}
use Rattle.mpp_inline.specs.inner.Growth.{IsUsable, Placed, Held, Pushed, Merged, SameButSome, cells_of}
use Rattle.mpp_inline.specs.inner.Sizes.{load}
use Rattle.mpp_inline.proofs.ListLemmas.{all-get, some-first, some-next, some-last, same-put, same-none}
use Rattle.mpp_inline.proofs.CheckGrowth.{pushed-load}
use Rattle.mpp_inline.proofs.BranchStages.{merge-first, merge-skip, merge-write}
use Rattle.mpp_inline.proofs.writes.merge.Goals as goal
use Rattle.mpp_inline.proofs.writes.merge.Goals.{then-first-second+in_ok-number, else-first-second}

pub loop-cell-preserved : goal.loop-cell-preserved
loop-cell-preserved c =
    let b = c.args.b.now in
    let all = c.args.given.now in
    let i = c.loop-cell.cell-index in
    let e = c.args.env.now in
    let f = c.loop-cell.env in
    let truth = c.args.guard in
    let p = get_or all i (0, 0) in
    let rest = drop (i + 1) all in
    let next : drop i all ≡ p ∷ rest = drop_more all i (0, 0) c.loop-cell-test.true in
    let within : Placed b e truth → Held b all → IsUsable b p.1 = λ r h. all-get (λ q. IsUsable b q.1) all i (0, 0) (r.sane.literal 0 (omega arith)) h.all in
    let step : Placed b e truth → Held b all → Merged b c.loop-cell.b truth (p ∷ rest) all e f = λ r h. subst (λ ps. Merged b c.loop-cell.b truth ps all e f)
    next (c.loop-cell.invariant.step r h) in
    let frame : SameButSome (p.0 ∷ cells_of rest) (cells_of all) e f = subst (λ ps. SameButSome (cells_of ps) (cells_of all) e f) next
    c.loop-cell.invariant.frame in
    elim c.if-first-second.branch [
      | then-first-second+in_ok-number w ↦ record {
        step = λ r h.
            subst (λ d. Merged b d truth rest all e c.if-first-second.env) (sym w.b-is)
            (subst (λ x. Merged b w.push.new.self truth rest all e x) (sym (w.env-is ∙ w.put.ensures))
            (merge-write r (within r h) (step r h)
            (subst (λ s. Pushed c.loop-cell.b w.push.new.self (Do Choose truth p.1 s) w.in_ok-number.number) c.look-second.ensures w.in_ok-number.ensures)));
        size = omega (arith, c.loop-cell.invariant.size, ap length next, pushed-load w.in_ok-number.ensures, ap load w.b-is);
        frame = subst (SameButSome (cells_of rest) (cells_of all) e) (sym (w.env-is ∙ w.put.ensures))
            (some-next (p.0 ∷ []) (cells_of rest) (cells_of all) e f _ frame (same-put p.0 w.in_ok-number.number f));
      }
      | else-first-second w ↦ record {
        step = λ r h.
            subst (λ d. Merged b d truth rest all e c.if-first-second.env) (sym w.b-is)
            (subst (λ x. Merged b c.loop-cell.b truth rest all e x) (sym w.env-is)
            (merge-skip (within r h) (w.if-first-second.false ∙ c.look-second.ensures) (step r h)));
        size = omega (arith, c.loop-cell.invariant.size, ap length next, ap load w.b-is);
        frame = subst (SameButSome (cells_of rest) (cells_of all) e) (sym w.env-is)
            (some-next (p.0 ∷ []) (cells_of rest) (cells_of all) e f f frame (same-none (p.0 ∷ []) f));
      }
    ]

pub loop-cell-init : goal.loop-cell-init
loop-cell-init c = record {
  step = λ r h. merge-first c.args.given.now r;
  size = omega arith;
  frame = some-first (cells_of c.args.given.now) c.args.env.now;
}

pub returns : goal.returns
returns c =
    let b = c.args.b.now in
    let all = c.args.given.now in
    let e = c.args.env.now in
    record {
      step = λ r h. subst (λ ps. Merged b c.loop-cell.b c.args.guard ps all e c.loop-cell.env) (drop_all c.loop-cell.cell-index all c.loop-cell-test.false)
          (c.loop-cell.invariant.step r h);
      size = omega (arith, c.loop-cell.invariant.size);
      frame = some-last _ (cells_of all) e c.loop-cell.env c.loop-cell.invariant.frame;
    }
