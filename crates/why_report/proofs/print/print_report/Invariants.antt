use Rattle.std.proofs.Common.{drop}
use Rattle.m_ports.proofs.GivingLemmas.{Given}
use Rattle.why_report.specs.Reports.{report_text}
use Rattle.why_report.proofs.print.print_report.Given as goal

abbrev pub invariant-loop-line : goal.invariant-loop-line
invariant-loop-line g l =
    Given g.K.Sink.written g.K.Sink.faults l.initial.out l.out (report_text l.names l.lines) (report_text l.names (drop l.line-index l.lines))
