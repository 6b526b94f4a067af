use Rattle.std.proofs.Common.{drop}
use Rattle.m_ports.proofs.GivingLemmas.{Given}
use Rattle.m_facts.specs.Lines.{silent_lines}
use Rattle.m_facts.proofs.print.print_silent.Given as goal

abbrev pub invariant-loop-k : goal.invariant-loop-k
invariant-loop-k g l = Given g.K.Sink.written g.K.Sink.faults l.initial.out l.out (silent_lines l.base l.silent) (silent_lines l.base (drop l.k-index l.silent))
