use Rattle.std.proofs.Common.{drop}
use Rattle.m_ports.proofs.GivingLemmas.{Given}
use Rattle.tax_print.specs.Lines.{outputs_lines}
use Rattle.tax_print.proofs.answer.print_all.Given as goal

abbrev pub invariant-loop-k : goal.invariant-loop-k
invariant-loop-k g l =
    Given g.K.Sink.written g.K.Sink.faults l.initial.out l.out (outputs_lines l.labels l.outputs l.values)
    (outputs_lines l.labels (drop l.k l.outputs) (drop l.k l.values))
