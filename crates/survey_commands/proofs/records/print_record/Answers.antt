use Rattle.std.proofs.Common.{refl}
use Rattle.std.proofs.lemmas.Result.{err_from_is_err_and}
use Rattle.m_ports.proofs.GivingLemmas.{none_given, piece_given, piece_failed, last_given}
use Rattle.survey_commands.proofs.records.print_record.Goals as goal

pub returns-in_err-give_field : goal.returns-in_err-give_field
returns-in_err-give_field g c =
    let p = err_from_is_err_and c.from_residual.result c.from_residual.ensures.1 in
    let gave = c.in_err-give_field.ensures in
    piece_failed _ _ _ _ _ _ _ _ _ _ _ p.1 refl (none_given _ _ _ _) gave.failed gave.prefix gave.counted

pub returns : goal.returns
returns g c =
    let gave = c.in_ok-give_field.ensures in
    last_given _ _ _ _ _ _ _ _ (piece_given _ _ _ _ _ _ _ _ _ refl (none_given _ _ _ _) gave.all gave.faultless) c.print_answer.ensures
