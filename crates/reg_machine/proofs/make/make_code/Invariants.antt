use Rattle.std.proofs.Common.{◌≡◌, take, drop}
use Rattle.reg_machine.specs.Flow.{code_of}
use Rattle.reg_machine.proofs.NumberingLemmas.{Rest}
use Rattle.reg_machine.proofs.make.make_code.Given as goal

abbrev pub invariant-loop-place : goal.invariant-loop-place
invariant-loop-place l = record {
  rest : Rest l.code (code_of l.inputs l.slots l.labels l.outputs l.instrs) l.place (drop l.place l.instrs);
  is : l.code ≡ code_of l.inputs l.slots l.labels l.outputs (take l.place l.instrs);
}
