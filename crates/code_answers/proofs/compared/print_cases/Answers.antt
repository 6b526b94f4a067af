use Rattle.std.proofs.Common.{refl, sym, append-nil}
use Rattle.std.proofs.lemmas.Result.{err_from_is_err_and}
use Rattle.m_ports.proofs.GivingLemmas.{none_given, piece_given}
use Rattle.code_answers.proofs.CaseLemmas.{two_written}
use Rattle.m_batch.proofs.WritingLemmas.{part_stopped}
use Rattle.code_answers.proofs.compared.print_cases.Goals as goal

pub returns-in_err-count-clause-text : goal.returns-in_err-count-clause-text
returns-in_err-count-clause-text g c =
    let p = err_from_is_err_and c.from_residual.result c.from_residual.ensures.1 in
    part_stopped _ _ _ _ _ _ _ _ _ _ _ _ p.1 p.2 refl (none_given _ _ _ _) c.in_err-count.ensures.text.prefix c.in_err-count.ensures.text.counted

pub returns-in_err-print_count-clause-text : goal.returns-in_err-print_count-clause-text
returns-in_err-print_count-clause-text g c =
    let p = err_from_is_err_and c.from_residual-in_err-print_count.result c.from_residual-in_err-print_count.ensures.1 in
    let gave = c.in_err-print_count.ensures in
    part_stopped _ _ _ _ _ _ _ _ _ _ _ _ p.1 p.2 (sym (append-nil _))
    (piece_given _ _ _ _ _ _ _ _ _ refl (none_given _ _ _ _) c.in_ok-count.ensures.text.all c.in_ok-count.ensures.text.counted)
    (rw c.in_ok-count.ensures.count at gave.prefix) gave.failed

pub returns-clause-text : goal.returns-clause-text
returns-clause-text g c =
    two_written _ _ _ _ _ _ _ _ c.in_ok-count.ensures.text.all c.in_ok-count.ensures.text.counted
    (rw c.in_ok-count.ensures.count at c.in_ok-print_count.ensures.all) c.in_ok-print_count.ensures.faultless
