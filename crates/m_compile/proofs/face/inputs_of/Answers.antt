use Rattle.std.proofs.Common.{ap, ◌∙◌, arith}
use Rattle.std.proofs.lemmas.List.{take_all}
use Rattle.std.specs.List.{filter_map}
use Rattle.m_symbols.proofs.Filters.{filter_map_more}
use Rattle.driver_core.specs.Inputs.{input_declared}
use Rattle.m_compile.proofs.face.inputs_of.Goals as goal

pub loop-number-preserved : goal.loop-number-preserved
loop-number-preserved c =
    filter_map_more input_declared c.args.symbols.now.variables c.loop-number.number _ _ _ (omega (arith, c.loop-number-test.true, c.count-number-end.ensures))
    c.variable.ensures c.loop-number.invariant c.in_ok-add_input.ensures

pub returns : goal.returns
returns c =
    c.from_vec.ensures
    ∙ c.loop-number.invariant
    ∙ ap (filter_map input_declared) (take_all c.loop-number.number c.args.symbols.now.variables
    (omega (arith, c.loop-number-test.false, c.count-number-end.ensures)))
