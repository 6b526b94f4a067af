use Rattle.std.proofs.lemmas.Result.{err_from_is_err_and}
use Rattle.m_ports.proofs.GivingLemmas.{none_given, piece_given, piece_failed, last_given}
use Rattle.why_report.proofs.PrintLemmas.{named-line}
use Rattle.why_report.proofs.print.print_line.Goals as goal

pub returns-in_err-print_cell : goal.returns-in_err-print_cell
returns-in_err-print_cell g c =
    let p = err_from_is_err_and c.from_residual.result c.from_residual.ensures.1 in
    let gave = c.in_err-print_cell.ensures in
    piece_failed _ _ _ _ _ _ _ _ _ _ _ p.1 (named-line c.args.names.now c.args.line.cell c.owner-number.result c.name.result.now c.span.result c.args.line.value
    c.owner-number.ensures.owner c.name.ensures c.span.ensures.span) (none_given _ _ _ _) gave.failed gave.prefix gave.counted

pub returns : goal.returns
returns g c =
    let gave = c.in_ok-print_cell.ensures in
    let line = named-line c.args.names.now c.args.line.cell c.owner-number.result c.name.result.now c.span.result c.args.line.value
    c.owner-number.ensures.owner c.name.ensures c.span.ensures.span in
    last_given _ _ _ _ _ _ _ _ (piece_given _ _ _ _ _ _ _ _ _ line (none_given _ _ _ _) gave.all gave.faultless) c.print_value.ensures
