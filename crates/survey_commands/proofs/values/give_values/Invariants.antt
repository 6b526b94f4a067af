use Rattle.std.proofs.Common.{drop}
use Rattle.m_ports.proofs.GivingLemmas.{Given}
use Rattle.survey_commands.specs.inner.Outputs.{output_values}
use Rattle.survey_commands.proofs.values.give_values.Given as goal

abbrev pub invariant-loop-k : goal.invariant-loop-k
invariant-loop-k g l =
    Given g.K.Sink.written g.K.Sink.faults l.initial.out l.out (output_values l.outputs l.values) (output_values (drop l.k l.outputs) (drop l.k l.values))
