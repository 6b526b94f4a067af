use Rattle.std.proofs.Common.{◌≡◌, take}
use Rattle.m_batch.specs.Batch.{answers_of}
use Rattle.m_batch.proofs.blocks.answers_of_block.Given as goal

abbrev pub invariant-loop-r : goal.invariant-loop-r
invariant-loop-r l = l.answers.items ≡ answers_of l.columns.code (take l.r l.rows)
