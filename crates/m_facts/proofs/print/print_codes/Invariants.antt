use Rattle.std.proofs.Common.{drop}
use Rattle.m_ports.proofs.GivingLemmas.{Given}
use Rattle.m_facts.specs.Lines.{codes_text}
use Rattle.m_facts.proofs.print.print_codes.Given as goal

abbrev pub invariant-loop-n : goal.invariant-loop-n
invariant-loop-n g l = Given g.K.Sink.written g.K.Sink.faults l.initial.out l.out (codes_text l.inputs l.reads) (codes_text l.inputs (drop l.n-index l.reads))
