use Rattle.std.proofs.Common.{◌≡◌, take}
use Rattle.m_batch.proofs.one.outputs_of.Given as goal

abbrev pub invariant-loop-k : goal.invariant-loop-k
invariant-loop-k l = l.outputs.items ≡ take l.k l.machine.outputs
