use Rattle.std.proofs.Common.{◌≡◌, take}
use Rattle.std.specs.List.{filter_map}
use Rattle.driver_core.specs.Inputs.{input_declared}
use Rattle.m_compile.proofs.face.inputs_of.Given as goal

abbrev pub invariant-loop-number : goal.invariant-loop-number
invariant-loop-number l = l.inputs.items ≡ filter_map input_declared (take l.number l.symbols.variables)
