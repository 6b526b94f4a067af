use Rattle.std.proofs.Common.{◌≡◌, All, take}
use Rattle.loop_values.specs.Headers.{IsSingle}
use Rattle.loop_values.proofs.single.single_count.Given as goal

abbrev pub invariant-loop-index : goal.invariant-loop-index
invariant-loop-index l = (l.count ≡ l.index-index) × All IsSingle (take l.index-index l.indexes)
