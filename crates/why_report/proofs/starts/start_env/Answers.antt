use Rattle.std.proofs.Common.{◌++◌, replicate, [], ap, ◌∙◌, arith}
use Rattle.m_fixed.specs.declared.amount.Value.{Value}
use Rattle.why_report.specs.Starts.{start_env}
use Rattle.why_report.proofs.StartLemmas.{start-turn}
use Rattle.why_report.proofs.starts.start_env.Goals as goal

pub loop-number-preserved : goal.loop-number-preserved
loop-number-preserved c =
    let v = c.variable-variable.result.now in
    let env = c.loop-number.env.items in
    start-turn c.args.symbols.now.variables c.loop-number.number v env c.add_values.new.values.items (start_env c.args.symbols.now [])
    (omega (arith, c.loop-number-test.true, c.loop-number.auto.number-end, c.count-number-end.ensures)) c.variable-variable.ensures
    (c.in_ok-add_values.ensures ∙ ap (λ (w : Value). env ++ replicate v.cells w) c.start_value.ensures) c.loop-number.invariant
