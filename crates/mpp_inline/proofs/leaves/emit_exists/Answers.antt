use Rattle.std.proofs.Common.{length, ap, ◌∙◌, subst, arith}
use Rattle.std.specs.Prelude.{IfOk}
use Rattle.micro_m.specs.Values.{term_value}
use Rattle.driver_core.specs.Leaves.{any_present}
use Rattle.mpp_inline.specs.inner.Growth.{Sane, Known, TermStep}
use Rattle.mpp_inline.proofs.leaves.emit_exists.Goals as goal

pub emit_any-requires : goal.emit_any-requires
emit_any-requires c = omega (arith, c.requires, ap length c.deref.ensures.value, ap length c.in_ok-cells.ensures)

pub returns-clause-step : goal.returns-clause-step
returns-clause-step c =
    let b = c.args.b.now in
    let e = c.args.env.now in
    subst (λ xs. IfOk c.emit_any.result (λ k. Sane b → Known b e → TermStep b c.emit_any.new.b e (λ y. term_value y (any_present xs)) k))
    (c.deref.ensures.value ∙ c.in_ok-cells.ensures) c.emit_any.ensures.step
