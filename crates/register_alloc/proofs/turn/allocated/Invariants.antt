use Rattle.std.proofs.Common.{◌≡◌, ℕ, ◌≤◌, ◌+◌, ◌-◌, length}
use Rattle.reg_machine.specs.Flow.{loads_of}
use Rattle.register_alloc.specs.inner.Sound.{IsSound, IsSettled, IsShort, nodes_read, checks_read}
use Rattle.register_alloc.proofs.turn.allocated.Given as goal

abbrev pub invariant-loop-at : goal.invariant-loop-at
invariant-loop-at l = record {
  sound : IsSound l.flat l.at l.room;
  even : l.at.read ≡ l.at.made;
  settled : IsSettled l.flat l.at.made l.at.checked;
  labels : l.room.code.counts.labels ≡ l.labels;
  short : IsShort l.flat l.at l.room.code.instrs;
  loads : (y : ℕ) → loads_of y l.room.code ≤ nodes_read l.flat l.at.made y + checks_read l.flat l.at.checked y;
}

abbrev pub decreases-loop-at : goal.decreases-loop-at
decreases-loop-at l = length l.flat.nodes - l.at.made
