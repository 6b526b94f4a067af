use Rattle.std.proofs.Common.{drop}
use Rattle.m_ports.proofs.GivingLemmas.{Given}
use Rattle.m_facts.specs.inner.Parts.{outputs_lines}
use Rattle.m_facts.proofs.print.print_outputs.Given as goal

abbrev pub invariant-loop-k : goal.invariant-loop-k
invariant-loop-k g l =
    Given g.K.Sink.written g.K.Sink.faults l.initial.out l.out (outputs_lines l.outputs l.possible) (outputs_lines (drop l.k l.outputs) (drop l.k l.possible))
