use Rattle.std.proofs.Common.{◌≡◌, ◌+◌, ◌≤◌, ◌∷◌, length, sym, ap, subst, arith}
use Rattle.std.proofs.lemmas.List.{nil_from_length}
use Rattle.std.proofs.lemmas.Result.{IfOk-weaker, on_ok_weaker}
use Rattle.micro_m.specs.Values.{environment, term_value, folded}
use Rattle.driver_core.specs.Leaves.{then_present, any_present}
use Rattle.mpp_inline.specs.inner.Growth.{IsUsable, at, denoted, Sane, Known, Gives, TermStep}
use Rattle.mpp_inline.specs.inner.Sizes.{load}
use Rattle.mpp_inline.proofs.CheckGrowth.{cell-step}
use Rattle.mpp_inline.proofs.TermLemmas.{chain-step, zero-step}
use Rattle.mpp_inline.proofs.leaves.emit_any.Goals as goal

pub returns-in-Some-clause-step : goal.returns-in-Some-clause-step
returns-in-Some-clause-step c =
    let b = c.args.b.now in
    let e = c.args.env.now in
    let first = c.in-Some.first.now in
    let rest = c.in-Some.rest.now in
    let is : c.args.cells.now ≡ first ∷ rest = c.in-Some.ensures.cases.0 in
    IfOk-weaker c.emit_present.result (λ k. Sane b → Known b e → IsUsable b c.look.result
    → Gives b c.emit_present.new.b (λ inputs. folded (environment (denoted b inputs e)) (at b inputs c.look.result) (then_present rest)) k) _
    (λ k f s kn. subst (λ l. TermStep b c.emit_present.new.b e (λ y. term_value y (any_present l)) k) (sym is)
    (chain-step (λ y. y first) (λ y v. folded y v (then_present rest))
    (λ s' kn'. subst (λ x. TermStep b b e (λ y. y first) x) (sym c.look.ensures) (cell-step first s' kn')) f s kn))
    c.emit_present.ensures.step

pub emit_present-requires : goal.emit_present-requires
emit_present-requires c = omega (arith, c.requires, ap length c.in-Some.ensures.cases.0)

pub returns-in-Some-clause-size : goal.returns-in-Some-clause-size
returns-in-Some-clause-size c =
    let b = load c.args.b.now in
    let d = load c.emit_present.new.b in
    on_ok_weaker c.emit_present.result
    (λ (m : d ≤ b + length c.in-Some.rest.now + 1).
    let goal' : d ≤ b + length c.args.cells.now = omega (arith, m, ap length c.in-Some.ensures.cases.0) in goal')
    c.emit_present.ensures.size

pub returns-in-None-clause-step : goal.returns-in-None-clause-step
returns-in-None-clause-step c = λ s kn. zero-step c.args.env.now c.args.cells.now (nil_from_length c.args.cells.now c.in-None.ensures.cases) s
