use Rattle.std.proofs.Common.{drop, false}
use Rattle.m_ports.proofs.GivingLemmas.{Given}
use Rattle.survey_commands.specs.inner.Outputs.{output_notes}
use Rattle.survey_commands.proofs.notes.give_notes.Given as goal

abbrev pub invariant-loop-k : goal.invariant-loop-k
invariant-loop-k g l =
    Given g.K.Sink.written g.K.Sink.faults l.initial.out l.out (output_notes false l.labels l.outputs l.values)
    (output_notes l.some l.labels (drop l.k l.outputs) (drop l.k l.values))
