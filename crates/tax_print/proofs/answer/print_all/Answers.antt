use Rattle.std.proofs.Common.{◌<◌, length, refl, arith}
use Rattle.std.proofs.lemmas.Result.{err_from_is_err_and}
use Rattle.m_ports.proofs.GivingLemmas.{piece_given, piece_failed, all_given}
use Rattle.tax_print.proofs.ValuesLemmas.{outputs_at, outputs_end}
use Rattle.tax_print.proofs.answer.print_all.Goals as goal

pub returns-in_err-print_output : goal.returns-in_err-print_output
returns-in_err-print_output g c =
    let p = err_from_is_err_and c.from_residual.result c.from_residual.ensures.1 in
    let gave = c.in_err-print_output.ensures in
    let shown : c.loop-k.k < length c.args.outputs.now = omega (arith, c.loop-k-test.true, c.requires) in
    piece_failed _ _ _ _ _ _ _ _ _ _ _ p.1
    (outputs_at c.args.labels.now c.args.outputs.now c.args.values.now c.loop-k.k c.index-outputs-k.result c.index-outputs-k.result c.index-values-k.result
    c.index-values-k.result
    shown c.loop-k-test.true c.index-outputs-k.is c.index-values-k.is)
    c.loop-k.invariant gave.failed gave.prefix gave.counted

pub loop-k-preserved : goal.loop-k-preserved
loop-k-preserved g c =
    let gave = c.in_ok-print_output.ensures in
    let shown : c.loop-k.k < length c.args.outputs.now = omega (arith, c.loop-k-test.true, c.requires) in
    piece_given _ _ _ _ _ _ _ _ _
    (outputs_at c.args.labels.now c.args.outputs.now c.args.values.now c.loop-k.k c.index-outputs-k.result c.index-outputs-k.result c.index-values-k.result
    c.index-values-k.result
    shown c.loop-k-test.true c.index-outputs-k.is c.index-values-k.is)
    c.loop-k.invariant gave.all gave.faultless

pub returns : goal.returns
returns g c =
    all_given _ _ _ _ _ _ tt refl (rw (outputs_end c.args.labels.now c.args.outputs.now c.args.values.now c.loop-k.k c.loop-k-test.false) at c.loop-k.invariant)
