use Rattle.std.proofs.Common.{◌≡◌, ◌<◌}
use Rattle.reg_machine.specs.declared.instr.TheConstants.{REGISTERS}
use Rattle.register_alloc.proofs.room.Room.victim.Given as goal

abbrev pub invariant-loop-i : goal.invariant-loop-i
invariant-loop-i l = record {
  within : l.latest < REGISTERS;
  one : l.latest ≡ l.fn.one → ⊥;
  two : l.latest ≡ l.fn.two → ⊥;
}
