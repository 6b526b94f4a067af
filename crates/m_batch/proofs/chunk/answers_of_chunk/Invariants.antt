use Rattle.std.proofs.Common.{◌≡◌, ◌++◌, length}
use Rattle.m_batch.specs.Batch.{answers_of}
use Rattle.m_batch.proofs.chunk.answers_of_chunk.Given as goal

abbrev pub invariant-loop-alloc : goal.invariant-loop-alloc
invariant-loop-alloc l = record {
  code : l.blocks.code ≡ l.code;
  answers : answers_of l.code l.rows ≡ l.answers.items ++ answers_of l.code l.blocks.rows;
}

abbrev pub decreases-loop-alloc : goal.decreases-loop-alloc
decreases-loop-alloc l = length l.blocks.rows
