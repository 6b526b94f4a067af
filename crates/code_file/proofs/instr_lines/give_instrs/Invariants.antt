use Rattle.std.proofs.Common.{drop}
use Rattle.std.specs.List.{flat_map}
use Rattle.m_ports.proofs.GivingLemmas.{Given}
use Rattle.code_file.specs.Text.{instr_line}
use Rattle.code_file.proofs.instr_lines.give_instrs.Given as goal

abbrev pub invariant-loop-place : goal.invariant-loop-place
invariant-loop-place g l = Given g.K.Sink.written g.K.Sink.faults l.initial.out l.out (flat_map instr_line l.code.instrs)
    (flat_map instr_line (drop l.place l.code.instrs))
