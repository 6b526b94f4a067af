use Rattle.std.proofs.Common.{◌≡◌, ◌+◌, ◌∷◌, drop, get_or, length, ap, subst, arith}
use Rattle.std.proofs.lemmas.List.{drop_all, drop_more}
use Rattle.std.proofs.lemmas.Result.{IfOk-weaker}
use Rattle.m_fixed.specs.declared.operator.Op.TheVariants.{Present}
use Rattle.micro_m.specs.Values.{environment, folded}
use Rattle.driver_core.specs.Leaves.{then_present}
use Rattle.flat_code.specs.declared.program.Node.TheVariants.{Do}
use Rattle.mpp_inline.specs.inner.Growth.{at, denoted, Along, Pushed}
use Rattle.mpp_inline.proofs.CheckGrowth.{pushed-load, cell-step}
use Rattle.mpp_inline.proofs.TermLemmas.{pushed-right, fold-first, fold-next, fold-last}
use Rattle.mpp_inline.proofs.leaves.emit_present.Goals as goal

pub loop-cell-init : goal.loop-cell-init
loop-cell-init c = record {
  size = omega arith;
  step = λ s kn h. fold-first (λ inputs v. folded (environment (denoted c.args.b.now inputs c.args.env.now)) v
      (then_present c.args.cells.now)) c.args.so_far s h;
}

pub loop-cell-preserved : goal.loop-cell-preserved
loop-cell-preserved c =
    let b = c.args.b.now in
    let e = c.args.env.now in
    let all = c.args.cells.now in
    let i = c.loop-cell.cell-index in
    let x = get_or all i 0 in
    let next : drop i all ≡ x ∷ drop (i + 1) all = drop_more all i 0 c.loop-cell-test.true in
    record {
      size = omega (arith, c.loop-cell.invariant.size, ap length next, pushed-load c.in_ok-number.ensures);
      step = λ s kn h. fold-next (λ y. y x) (λ inputs v. folded (environment (denoted b inputs e)) v (then_present (drop (i + 1) all)))
          (subst (λ l. Along b c.loop-cell.b (λ inputs v. folded (environment (denoted b inputs e)) v (then_present l))
          (λ inputs. folded (environment (denoted b inputs e)) (at b inputs c.args.so_far) (then_present all)) c.loop-cell.number) next
          (c.loop-cell.invariant.step s kn h))
          (cell-step x) (pushed-right c.look.ensures c.in_ok-number.ensures) kn;
    }

pub returns-clause-step : goal.returns-clause-step
returns-clause-step c =
    let b = c.args.b.now in
    let e = c.args.env.now in
    let all = c.args.cells.now in
    IfOk-weaker c.push-2.result (λ k. Pushed c.loop-cell.b c.push-2.new.self (Do Present c.loop-cell.number 0 0) k) _
    (λ k p s kn h. fold-last (subst (λ l. Along b c.loop-cell.b (λ inputs v. folded (environment (denoted b inputs e)) v (then_present l))
    (λ inputs. folded (environment (denoted b inputs e)) (at b inputs c.args.so_far) (then_present all)) c.loop-cell.number)
    (drop_all c.loop-cell.cell-index all c.loop-cell-test.false) (c.loop-cell.invariant.step s kn h)) p)
    c.push-2.ensures
