use Rattle.std.proofs.Common.{length, take}
use Rattle.m_batch.specs.inner.Rooms.{IsRoom}
use Rattle.m_batch.specs.inner.Ran.{AreRun}
use Rattle.m_batch.proofs.step.run_rows.Given as goal

abbrev pub invariant-loop-n : goal.invariant-loop-n
invariant-loop-n l = record {
  room : IsRoom (length l.fn.room.slots.items) (length l.fn.room.outputs.items) l.room;
  run : AreRun l.numbers l.rows l.pool (take l.n l.packed) l.fn.room l.room;
}
