use Rattle.std.proofs.Common.{drop}
use Rattle.std.specs.List.{flat_map}
use Rattle.m_ports.proofs.GivingLemmas.{Given}
use Rattle.survey_commands.specs.inner.Outputs.{output_field}
use Rattle.survey_commands.proofs.columns.give_fields.Given as goal

abbrev pub invariant-loop-output : goal.invariant-loop-output
invariant-loop-output g l = Given g.K.Sink.written g.K.Sink.faults l.initial.out l.out (flat_map (output_field l.filled) l.outputs)
    (flat_map (output_field l.filled) (drop l.output-index l.outputs))
