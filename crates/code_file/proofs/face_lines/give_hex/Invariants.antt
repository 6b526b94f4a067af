use Rattle.std.proofs.Common.{drop}
use Rattle.m_ports.proofs.GivingLemmas.{Given}
use Rattle.code_file.specs.Text.{hex_of}
use Rattle.code_file.proofs.face_lines.give_hex.Given as goal

abbrev pub invariant-loop-byte : goal.invariant-loop-byte
invariant-loop-byte g l = Given g.K.Sink.written g.K.Sink.faults l.initial.out l.out (hex_of l.text) (hex_of (drop l.byte-index l.text))
