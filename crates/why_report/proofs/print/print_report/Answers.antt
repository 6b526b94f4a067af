use Rattle.std.proofs.Common.{refl, ap, arith}
use Rattle.std.proofs.lemmas.List.{drop_all}
use Rattle.std.proofs.lemmas.Result.{err_from_is_err_and}
use Rattle.m_ports.proofs.GivingLemmas.{piece_given, piece_failed, all_given}
use Rattle.why_report.specs.Reports.{report_text}
use Rattle.why_report.proofs.PrintLemmas.{report-at}
use Rattle.why_report.proofs.print.print_report.Goals as goal

pub returns-in_err-print_line : goal.returns-in_err-print_line
returns-in_err-print_line g c =
    let p = err_from_is_err_and c.from_residual.result c.from_residual.ensures.1 in
    let gave = c.in_err-print_line.ensures in
    piece_failed _ _ _ _ _ _ _ _ _ _ _ p.1
    (report-at c.args.names.now c.args.lines.now c.loop-line.line-index c.line-item.result c.line-item.result c.loop-line-test.true c.line-item.is)
    c.loop-line.invariant gave.failed gave.prefix gave.counted

pub loop-line-preserved : goal.loop-line-preserved
loop-line-preserved g c =
    let gave = c.in_ok-print_line.ensures in
    piece_given _ _ _ _ _ _ _ _ _
    (report-at c.args.names.now c.args.lines.now c.loop-line.line-index c.line-item.result c.line-item.result c.loop-line-test.true c.line-item.is)
    c.loop-line.invariant gave.all gave.faultless

pub returns : goal.returns
returns g c =
    all_given _ _ _ _ _ _ tt refl (rw (ap (report_text c.args.names.now)
    (drop_all c.loop-line.line-index c.args.lines.now (omega (arith, c.loop-line-test.false)))) at c.loop-line.invariant)
