use Rattle.std.proofs.Common.{drop}
use Rattle.std.specs.List.{flat_map}
use Rattle.m_ports.proofs.GivingLemmas.{Given}
use Rattle.code_file.specs.Text.{output_line}
use Rattle.code_file.proofs.face_lines.give_outputs.Given as goal

abbrev pub invariant-loop-k : goal.invariant-loop-k
invariant-loop-k g l = Given g.K.Sink.written g.K.Sink.faults l.initial.out l.out (flat_map output_line l.outputs) (flat_map output_line (drop l.k l.outputs))
