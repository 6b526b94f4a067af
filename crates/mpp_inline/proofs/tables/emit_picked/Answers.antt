use Rattle.std.proofs.Common.{sym, subst}
use Rattle.std.proofs.lemmas.Result.{IfOk-weaker}
use Rattle.flat_code.specs.declared.program.Node.TheVariants.{Lit}
use Rattle.micro_m.specs.Values.{picked_value}
use Rattle.mpp_inline.specs.inner.Growth.{Pushed, TermStep}
use Rattle.mpp_inline.proofs.CheckGrowth.{gives-lit}
use Rattle.mpp_inline.proofs.tables.emit_picked.Goals as goal

pub returns-in-Fixed-clause-step : goal.returns-in-Fixed-clause-step
returns-in-Fixed-clause-step c =
    let b = c.args.b.now in
    IfOk-weaker _ (λ k. Pushed b c.push.new.self (Lit c.in-Fixed.value) k) _
    (λ k p s kn. subst (λ x. TermStep b c.push.new.self c.args.env.now (λ y. picked_value y x) k) (sym c.in-Fixed.is) (gives-lit c.in-Fixed.value p s))
    c.push.ensures
