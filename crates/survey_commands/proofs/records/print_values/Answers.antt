use Rattle.std.proofs.Common.{refl}
use Rattle.std.proofs.lemmas.Result.{err_from_is_err_and}
use Rattle.m_ports.proofs.GivingLemmas.{none_given, piece_given, piece_failed, last_given}
use Rattle.survey_commands.proofs.records.print_values.Goals as goal

pub returns-in_err-give_pieces : goal.returns-in_err-give_pieces
returns-in_err-give_pieces g c =
    let p = err_from_is_err_and c.from_residual.result c.from_residual.ensures.1 in
    let failed = c.in_err-give_pieces.ensures in
    piece_failed _ _ _ _ _ _ _ _ _ _ _ p.1 refl
    (none_given _ _ _ _)
    failed.failed failed.prefix failed.counted

pub returns-in_err-give_notes : goal.returns-in_err-give_notes
returns-in_err-give_notes g c =
    let p = err_from_is_err_and c.from_residual-in_err-give_notes.result c.from_residual-in_err-give_notes.ensures.1 in
    let gave-1 = c.in_ok-give_pieces.ensures in
    let failed = c.in_err-give_notes.ensures in
    piece_failed _ _ _ _ _ _ _ _ _ _ _ p.1 refl
    (piece_given _ _ _ _ _ _ _ _ _ refl (none_given _ _ _ _) gave-1.all gave-1.faultless)
    failed.failed failed.prefix failed.counted

pub returns-in_err-give_values : goal.returns-in_err-give_values
returns-in_err-give_values g c =
    let p = err_from_is_err_and c.from_residual-in_err-give_values.result c.from_residual-in_err-give_values.ensures.1 in
    let gave-1 = c.in_ok-give_pieces.ensures in
    let gave-2 = c.in_ok-give_notes.ensures in
    let failed = c.in_err-give_values.ensures in
    piece_failed _ _ _ _ _ _ _ _ _ _ _ p.1 refl
    (piece_given _ _ _ _ _ _ _ _ _ refl (piece_given _ _ _ _ _ _ _ _ _ refl (none_given _ _ _ _) gave-1.all gave-1.faultless) gave-2.all gave-2.faultless)
    failed.failed failed.prefix failed.counted

pub returns : goal.returns
returns g c =
    let gave-1 = c.in_ok-give_pieces.ensures in
    let gave-2 = c.in_ok-give_notes.ensures in
    let gave-3 = c.in_ok-give_values.ensures in
    last_given _ _ _ _ _ _ _ _
    (piece_given _ _ _ _ _ _ _ _ _ refl (piece_given _ _ _ _ _ _ _ _ _ refl
    (piece_given _ _ _ _ _ _ _ _ _ refl (none_given _ _ _ _) gave-1.all gave-1.faultless) gave-2.all gave-2.faultless) gave-3.all gave-3.faultless)
    c.give_pieces-2.ensures
