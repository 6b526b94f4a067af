use Rattle.std.proofs.Common.{get_or, refl}
use Rattle.std.proofs.lemmas.Result.{err_from_is_err_and}
use Rattle.m_ports.proofs.GivingLemmas.{piece_given, piece_failed}
use Rattle.m_facts.proofs.PrintLemmas.{silent-at}
use Rattle.m_facts.proofs.print.print_silent.Goals as goal

pub returns-in_err-print_check : goal.returns-in_err-print_check
returns-in_err-print_check g c =
    let p = err_from_is_err_and c.from_residual.result c.from_residual.ensures.1 in
    let gave = c.in_err-print_check.ensures in
    piece_failed _ _ _ _ _ _ _ _ _ _ _ p.1 (silent-at c.args.base.now c.args.silent.now c.loop-k.k-index (get_or c.args.silent.now c.loop-k.k-index 0) 0
    c.loop-k-test.true refl) c.loop-k.invariant gave.failed gave.prefix gave.counted

pub loop-k-preserved : goal.loop-k-preserved
loop-k-preserved g c =
    let gave = c.in_ok-print_check.ensures in
    piece_given _ _ _ _ _ _ _ _ _ (silent-at c.args.base.now c.args.silent.now c.loop-k.k-index (get_or c.args.silent.now c.loop-k.k-index 0) 0
    c.loop-k-test.true refl) c.loop-k.invariant gave.all gave.faultless
