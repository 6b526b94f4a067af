use Rattle.std.proofs.Common.{◌≡◌, length}
use Rattle.reg_machine.specs.Machine.{fresh}
use Rattle.reg_machine.specs.inner.Cells.{GoesOn}
use Rattle.reg_machine.proofs.cells.Cells.run.Given as goal

abbrev pub invariant-loop-instr : goal.invariant-loop-instr
invariant-loop-instr l = record {
  goes : GoesOn l.inputs l.pool l.used l.packed (fresh (length l.fn.self.outputs.items)) l.instr-index l.self.registers l.self.slots.items l.self.outputs.items;
  slots : length l.self.slots.items ≡ length l.fn.self.slots.items;
  outputs : length l.self.outputs.items ≡ length l.fn.self.outputs.items;
}
