use Rattle.std.proofs.Common.{drop}
use Rattle.m_ports.proofs.GivingLemmas.{Given}
use Rattle.m_lint.specs.Lines.{findings_text}
use Rattle.m_lint.proofs.print.print_findings.Given as goal

abbrev pub invariant-loop-finding : goal.invariant-loop-finding
invariant-loop-finding g l =
    Given g.K.Sink.written g.K.Sink.faults l.initial.out l.out (findings_text l.symbols l.base l.findings)
    (findings_text l.symbols l.base (drop l.finding-index l.findings))
