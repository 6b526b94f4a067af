use Rattle.std.proofs.Common.{drop}
use Rattle.std.specs.List.{flat_map}
use Rattle.m_ports.proofs.GivingLemmas.{Given}
use Rattle.survey_commands.specs.Csv.{quoted_byte}
use Rattle.survey_commands.proofs.csv.give_bytes.Given as goal

abbrev pub invariant-loop-byte : goal.invariant-loop-byte
invariant-loop-byte g l = Given g.K.Sink.written g.K.Sink.faults l.initial.out l.out (flat_map quoted_byte l.bytes)
    (flat_map quoted_byte (drop l.byte-index l.bytes))
