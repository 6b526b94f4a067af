use Rattle.std.proofs.Common.{refl, length, arith}
use Rattle.std.proofs.lemmas.Result.{err_from_is_err_and}
use Rattle.m_ports.proofs.GivingLemmas.{piece_given, piece_failed, all_given}
use Rattle.m_facts.proofs.PrintLemmas.{outputs-at, outputs-end, within-both, past-one}
use Rattle.m_facts.proofs.print.print_outputs.Goals as goal

pub returns-in_err-print_output : goal.returns-in_err-print_output
returns-in_err-print_output g c =
    let p = err_from_is_err_and c.from_residual.result c.from_residual.ensures.1 in
    let gave = c.in_err-print_output.ensures in
    let low = within-both c.loop-k.k (length c.args.outputs.now) (length c.args.possible.now) (omega (arith, c.loop-k-test.true, c.min-k-end.ensures)) in
    piece_failed _ _ _ _ _ _ _ _ _ _ _ p.1
    (outputs-at c.args.outputs.now c.args.possible.now c.loop-k.k c.index-outputs-k.result c.index-outputs-k.result c.index-possible-k.result
    c.index-possible-k.result low.0 low.1 c.index-outputs-k.is c.index-possible-k.is)
    c.loop-k.invariant gave.failed gave.prefix gave.counted

pub loop-k-preserved : goal.loop-k-preserved
loop-k-preserved g c =
    let gave = c.in_ok-print_output.ensures in
    let low = within-both c.loop-k.k (length c.args.outputs.now) (length c.args.possible.now) (omega (arith, c.loop-k-test.true, c.min-k-end.ensures)) in
    piece_given _ _ _ _ _ _ _ _ _
    (outputs-at c.args.outputs.now c.args.possible.now c.loop-k.k c.index-outputs-k.result c.index-outputs-k.result c.index-possible-k.result
    c.index-possible-k.result low.0 low.1 c.index-outputs-k.is c.index-possible-k.is)
    c.loop-k.invariant gave.all gave.faultless

pub returns : goal.returns
returns g c =
    let past = past-one c.loop-k.k (length c.args.outputs.now) (length c.args.possible.now) (omega (arith, c.loop-k-test.false, c.min-k-end.ensures)) in
    all_given _ _ _ _ _ _ tt refl (rw (outputs-end c.args.outputs.now c.args.possible.now c.loop-k.k past) at c.loop-k.invariant)
