use Rattle.std.proofs.Common.{refl}
use Rattle.std.proofs.lemmas.Result.{err_from_is_err_and}
use Rattle.m_ports.proofs.GivingLemmas.{none_given, piece_given, piece_failed, last_given}
use Rattle.m_facts.proofs.PrintLemmas.{read-first}
use Rattle.m_facts.proofs.print.print_read.Goals as goal

pub returns-in_err-give_pieces : goal.returns-in_err-give_pieces
returns-in_err-give_pieces g c =
    let p = err_from_is_err_and c.from_residual.result c.from_residual.ensures.1 in
    let gave = c.in_err-give_pieces.ensures in
    piece_failed _ _ _ _ _ _ _ _ _ _ _ p.1 (read-first c.args.inputs.now c.args.name.now c.args.reads.now) (none_given _ _ _ _) gave.failed gave.prefix
    gave.counted

pub returns-in_err-print_codes : goal.returns-in_err-print_codes
returns-in_err-print_codes g c =
    let p = err_from_is_err_and c.from_residual-in_err-print_codes.result c.from_residual-in_err-print_codes.ensures.1 in
    let first = c.in_ok-give_pieces.ensures in
    let gave = c.in_err-print_codes.ensures in
    let named = piece_given _ _ _ _ _ _ _ _ _ (read-first c.args.inputs.now c.args.name.now c.args.reads.now) (none_given _ _ _ _) first.all first.faultless in
    piece_failed _ _ _ _ _ _ _ _ _ _ _ p.1 refl named gave.failed gave.prefix gave.counted

pub returns : goal.returns
returns g c =
    let first = c.in_ok-give_pieces.ensures in
    let then = c.in_ok-print_codes.ensures in
    let named = piece_given _ _ _ _ _ _ _ _ _ (read-first c.args.inputs.now c.args.name.now c.args.reads.now) (none_given _ _ _ _) first.all first.faultless in
    last_given _ _ _ _ _ _ _ _ (piece_given _ _ _ _ _ _ _ _ _ refl named then.all then.faultless) c.give_pieces-2.ensures
