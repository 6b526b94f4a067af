use Rattle.std.proofs.Common.{drop}
use Rattle.m_ports.proofs.GivingLemmas.{Given}
use Rattle.m_facts.specs.Lines.{reads_lines}
use Rattle.m_facts.proofs.print.print_reads.Given as goal

abbrev pub invariant-loop-j : goal.invariant-loop-j
invariant-loop-j g l =
    Given g.K.Sink.written g.K.Sink.faults l.initial.out l.out (reads_lines l.face l.firsts l.reads) (reads_lines l.face (drop l.j l.firsts) (drop l.j l.reads))
