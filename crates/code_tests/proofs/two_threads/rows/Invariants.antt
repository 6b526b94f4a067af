use Rattle.std.specs.List.{AllByRecursion}
use Rattle.m_batch.specs.Batch.{HasInputsBelow}
use Rattle.code_tests.proofs.two_threads.rows.Given as goal

abbrev pub invariant-loop-k : goal.invariant-loop-k
invariant-loop-k l = AllByRecursion (HasInputsBelow 1) l.rows.items
