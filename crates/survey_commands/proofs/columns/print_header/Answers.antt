use Rattle.std.proofs.Common.{refl}
use Rattle.std.proofs.lemmas.Result.{err_from_is_err_and}
use Rattle.m_ports.proofs.GivingLemmas.{none_given, piece_given, piece_failed, last_given}
use Rattle.survey_commands.proofs.OutputLemmas.{names_are}
use Rattle.survey_commands.proofs.columns.print_header.Goals as goal

pub returns-in_err-give_pieces : goal.returns-in_err-give_pieces
returns-in_err-give_pieces g c =
    let p = err_from_is_err_and c.from_residual.result c.from_residual.ensures.1 in
    let failed = c.in_err-give_pieces.ensures in
    piece_failed _ _ _ _ _ _ _ _ _ _ _ p.1 refl
    (none_given _ _ _ _)
    failed.failed failed.prefix failed.counted

pub returns-in_err-give_fields : goal.returns-in_err-give_fields
returns-in_err-give_fields g c =
    let p = err_from_is_err_and c.from_residual-in_err-give_fields.result c.from_residual-in_err-give_fields.ensures.1 in
    let gave-1 = c.in_ok-give_pieces.ensures in
    let failed = rw (names_are c.args.outputs.now) at c.in_err-give_fields.ensures in
    piece_failed _ _ _ _ _ _ _ _ _ _ _ p.1 refl
    (piece_given _ _ _ _ _ _ _ _ _ refl (none_given _ _ _ _) gave-1.all gave-1.faultless)
    failed.failed failed.prefix failed.counted

pub returns : goal.returns
returns g c =
    let gave-1 = c.in_ok-give_pieces.ensures in
    let gave-2 = rw (names_are c.args.outputs.now) at c.in_ok-give_fields.ensures in
    last_given _ _ _ _ _ _ _ _
    (piece_given _ _ _ _ _ _ _ _ _ refl (piece_given _ _ _ _ _ _ _ _ _ refl (none_given _ _ _ _) gave-1.all gave-1.faultless) gave-2.all gave-2.faultless)
    c.give_pieces-2.ensures
