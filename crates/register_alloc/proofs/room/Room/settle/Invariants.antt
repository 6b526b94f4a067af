use Rattle.std.proofs.Common.{◌≡◌, ℕ, ◌≤◌, ◌+◌, ◌-◌, length}
use Rattle.reg_machine.specs.Flow.{loads_of}
use Rattle.register_alloc.specs.inner.Sound.{IsSound, IsShort, checks_read}
use Rattle.register_alloc.proofs.room.Room.settle.Given as goal

abbrev pub invariant-loop-check : goal.invariant-loop-check
invariant-loop-check l = record {
  sound : IsSound l.flat l.at l.self;
  same : l.at ≡ record l.fn.start { checked = l.at.checked };
  counts : l.self.code.counts ≡ l.fn.self.code.counts;
  short : IsShort l.flat l.at l.self.code.instrs;
  loads : (y : ℕ) → loads_of y l.self.code + checks_read l.flat l.fn.start.checked y ≤ loads_of y l.fn.self.code + checks_read l.flat l.at.checked y;
}

abbrev pub decreases-loop-check : goal.decreases-loop-check
decreases-loop-check l = length l.flat.checks - l.at.checked
