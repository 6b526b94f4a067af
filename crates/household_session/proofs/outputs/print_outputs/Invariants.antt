use Rattle.std.proofs.Common.{drop}
use Rattle.std.specs.Prelude.{map}
use Rattle.m_ports.proofs.GivingLemmas.{Given}
use Rattle.flat_code.specs.Runs.{node_values, value_at}
use Rattle.tax_print.specs.Lines.{outputs_lines}
use Rattle.household_session.proofs.outputs.print_outputs.Given as goal

abbrev pub invariant-loop-k : goal.invariant-loop-k
invariant-loop-k g l =
    Given g.K.Sink.written g.K.Sink.faults l.initial.out l.out
    (outputs_lines l.face.labels l.face.outputs (map (value_at (node_values l.sheet.now l.sheet.flat.nodes)) l.sheet.flat.outputs))
    (outputs_lines l.face.labels (drop l.k l.face.outputs) (map (value_at (node_values l.sheet.now l.sheet.flat.nodes)) (drop l.k l.sheet.flat.outputs)))
