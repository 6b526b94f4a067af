use Rattle.std.proofs.Common.{refl}
use Rattle.std.proofs.lemmas.Result.{err_from_is_err_and}
use Rattle.m_ports.proofs.GivingLemmas.{none_given, piece_given, piece_failed, last_given}
use Rattle.m_facts.proofs.PrintLemmas.{found-first}
use Rattle.m_facts.proofs.print.print_facts.Goals as goal

pub returns-in_err-print_outputs : goal.returns-in_err-print_outputs
returns-in_err-print_outputs g c =
    let p = err_from_is_err_and c.from_residual.result c.from_residual.ensures.1 in
    let gave = rw (c.as_slice.ensures, c.as_slice-2.ensures) at c.in_err-print_outputs.ensures in
    piece_failed _ _ _ _ _ _ _ _ _ _ _ p.1 (found-first c.args.base.now c.args.face.now c.args.found.now) (none_given _ _ _ _) gave.failed gave.prefix
    gave.counted

pub returns-in_err-print_silent : goal.returns-in_err-print_silent
returns-in_err-print_silent g c =
    let p = err_from_is_err_and c.from_residual-in_err-print_silent.result c.from_residual-in_err-print_silent.ensures.1 in
    let first = rw (c.as_slice.ensures, c.as_slice-2.ensures) at c.in_ok-print_outputs.ensures in
    let gave = rw c.as_slice-3.ensures at c.in_err-print_silent.ensures in
    let named = piece_given _ _ _ _ _ _ _ _ _ (found-first c.args.base.now c.args.face.now c.args.found.now) (none_given _ _ _ _) first.all first.faultless in
    piece_failed _ _ _ _ _ _ _ _ _ _ _ p.1 refl named gave.failed gave.prefix gave.counted

pub returns : goal.returns
returns g c =
    let first = rw (c.as_slice.ensures, c.as_slice-2.ensures) at c.in_ok-print_outputs.ensures in
    let next = rw c.as_slice-3.ensures at c.in_ok-print_silent.ensures in
    let named = piece_given _ _ _ _ _ _ _ _ _ (found-first c.args.base.now c.args.face.now c.args.found.now) (none_given _ _ _ _) first.all first.faultless in
    last_given _ _ _ _ _ _ _ _ (piece_given _ _ _ _ _ _ _ _ _ refl named next.all next.faultless)
    (rw (c.as_slice-4.ensures, c.as_slice-5.ensures) at c.print_reads.ensures)
