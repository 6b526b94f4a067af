use Rattle.std.proofs.Common.{◌≡◌, ℕ, ◌<◌, ◌≤◌, ◌+◌, ◌-◌, length, slice_index}
use Rattle.reg_machine.specs.Flow.{loads_of}
use Rattle.register_alloc.specs.inner.Sound.{IsSoundWith, given_part, count_some, count_given}
use Rattle.register_alloc.proofs.room.Room.give.Given as goal

abbrev pub invariant-loop-output : goal.invariant-loop-output
invariant-loop-output l = record {
  sound : IsSoundWith l.flat l.fn.at (given_part l.fn.node l.output l.flat.outputs) l.self;
  within : l.output ≤ length l.flat.outputs;
  is : l.output < length l.flat.outputs → slice_index l.flat.outputs l.output ≡ l.fn.node;
  registers : l.self.registers ≡ l.fn.self.registers;
  counts : l.self.code.counts ≡ l.fn.self.code.counts;
  len : length l.self.code.instrs + count_given l.fn.node l.flat.outputs ≤ length l.fn.self.code.instrs + count_some
      (given_part l.fn.node l.output l.flat.outputs);
  loads : (y : ℕ) → loads_of y l.self.code ≡ loads_of y l.fn.self.code;
}

abbrev pub decreases-loop-output : goal.decreases-loop-output
decreases-loop-output l = length l.flat.outputs - l.output
