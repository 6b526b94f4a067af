use Rattle.std.proofs.Common.{refl, sym, append-nil}
use Rattle.std.proofs.lemmas.Result.{err_from_is_err_and}
use Rattle.m_ports.proofs.GivingLemmas.{none_given, piece_given}
use Rattle.m_batch.proofs.WritingLemmas.{part_stopped}
use Rattle.code_answers.proofs.BatchLemmas.{lines_may}
use Rattle.code_answers.proofs.CaseLemmas.{two_written}
use Rattle.survey_commands.proofs.table.print_table.Goals as goal

pub print_batch-requires-clause-may : goal.print_batch-requires-clause-may
print_batch-requires-clause-may g c = λ κs held. lines_may c.args.loaded.now 0 c.args.rows.now c.requires.runnable

pub returns-in_err-give_header : goal.returns-in_err-give_header
returns-in_err-give_header g c =
    let p = err_from_is_err_and c.from_residual.result c.from_residual.ensures.1 in
    let gave = rw c.as_slice.ensures at c.in_err-give_header.ensures in
    part_stopped _ _ _ _ _ _ _ _ _ _ _ _ p.1 p.2 refl (none_given _ _ _ _) gave.prefix gave.failed

pub returns-in_err-count : goal.returns-in_err-count
returns-in_err-count g c =
    let p = err_from_is_err_and c.from_residual-in_err-count.result c.from_residual-in_err-count.ensures.1 in
    let gave = rw c.as_slice.ensures at c.in_ok-give_header.ensures in
    part_stopped _ _ _ _ _ _ _ _ _ _ _ _ p.1 p.2 (sym (append-nil _))
    (piece_given _ _ _ _ _ _ _ _ _ refl (none_given _ _ _ _) gave.all gave.faultless) c.in_err-count.ensures.text.prefix
    c.in_err-count.ensures.text.counted

pub returns : goal.returns
returns g c =
    let gave = rw c.as_slice.ensures at c.in_ok-give_header.ensures in
    two_written _ _ _ _ _ _ _ _ gave.all gave.faultless c.in_ok-count.ensures.text.all c.in_ok-count.ensures.text.counted
