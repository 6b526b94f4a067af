use Rattle.std.proofs.Common.{take}
use Rattle.loop_values.proofs.Marks.{IsMarked}
use Rattle.loop_values.proofs.header.repeated_letters.Given as goal

abbrev pub invariant-loop-index : goal.invariant-loop-index
invariant-loop-index l = IsMarked l.once l.twice (take l.index-index l.indexes)
