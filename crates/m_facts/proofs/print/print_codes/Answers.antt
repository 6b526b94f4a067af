use Rattle.std.proofs.Common.{get_or, refl}
use Rattle.std.proofs.lemmas.Result.{err_from_is_err_and}
use Rattle.m_ports.proofs.GivingLemmas.{piece_given, piece_failed}
use Rattle.m_facts.proofs.PrintLemmas.{codes-at}
use Rattle.m_facts.proofs.print.print_codes.Goals as goal

pub returns-in_err-print_code : goal.returns-in_err-print_code
returns-in_err-print_code g c =
    let p = err_from_is_err_and c.from_residual.result c.from_residual.ensures.1 in
    let gave = c.in_err-print_code.ensures in
    piece_failed _ _ _ _ _ _ _ _ _ _ _ p.1 (codes-at c.args.inputs.now c.args.reads.now c.loop-n.n-index (get_or c.args.reads.now c.loop-n.n-index 0) 0
    c.loop-n-test.true refl) c.loop-n.invariant gave.failed gave.prefix gave.counted

pub loop-n-preserved : goal.loop-n-preserved
loop-n-preserved g c =
    let gave = c.in_ok-print_code.ensures in
    piece_given _ _ _ _ _ _ _ _ _ (codes-at c.args.inputs.now c.args.reads.now c.loop-n.n-index (get_or c.args.reads.now c.loop-n.n-index 0) 0
    c.loop-n-test.true refl) c.loop-n.invariant gave.all gave.faultless
