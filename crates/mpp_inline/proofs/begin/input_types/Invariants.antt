use Rattle.std.proofs.Common.{◌≡◌, ◌++◌, drop}
use Rattle.mpp_inline.specs.inner.Growth.{kinds_from}
use Rattle.mpp_inline.proofs.begin.input_types.Given as goal

abbrev pub invariant-loop-v : goal.invariant-loop-v
invariant-loop-v l = l.kinds.items ++ kinds_from (drop l.v l.symbols.variables) ≡ kinds_from l.symbols.variables
