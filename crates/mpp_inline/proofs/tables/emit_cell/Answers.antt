use Rattle.std.proofs.Common.{subst}
use Rattle.std.proofs.lemmas.Result.{IfOk-weaker}
use Rattle.m_fixed.specs.declared.operator.Op.TheVariants.{Choose}
use Rattle.flat_code.specs.declared.program.Node.TheVariants.{Lit, Do}
use Rattle.mpp_inline.specs.inner.Growth.{Pushed}
use Rattle.mpp_inline.proofs.TableLemmas.{cell-chosen}
use Rattle.mpp_inline.proofs.tables.emit_cell.Goals as goal

pub returns-clause-step : goal.returns-clause-step
returns-clause-step c =
    let b = c.args.b.now in
    IfOk-weaker _ (λ k. Pushed c.push-2.new.self c.push-3.new.self (Do Choose c.in_ok-test.test c.args.cell c.args.other) k) _
    (λ k p s hi hc ho.
    cell-chosen (subst (λ v. Pushed b c.push.new.self (Lit v) c.in_ok-meant.meant) c.units.ensures c.in_ok-meant.ensures) c.in_ok-test.ensures p s hi hc ho)
    c.push-3.ensures
