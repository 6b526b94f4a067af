use Rattle.std.proofs.Common.{subst}
use Rattle.std.proofs.lemmas.Result.{IfOk-weaker}
use Rattle.m_fixed.specs.declared.operator.Op.TheVariants.{Choose}
use Rattle.flat_code.specs.declared.program.Node.TheVariants.{Lit, Do}
use Rattle.mpp_inline.specs.inner.Growth.{Pushed}
use Rattle.mpp_inline.proofs.TableLemmas.{outside-chosen}
use Rattle.mpp_inline.proofs.tables.emit_outside.Goals as goal

pub returns-clause-step : goal.returns-clause-step
returns-clause-step c =
    let b = c.args.b.now in
    IfOk-weaker _ (λ k. Pushed c.push-2.new.self c.push-3.new.self (Do Choose c.in_ok-below.below 1 0) k) _
    (λ k p s hi. outside-chosen (subst (λ v. Pushed b c.push.new.self (Lit v) c.in_ok-limit.limit) c.unit_below.ensures c.in_ok-limit.ensures)
    c.in_ok-below.ensures p s hi)
    c.push-3.ensures
