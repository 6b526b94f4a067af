use Rattle.std.proofs.Common.{refl}
use Rattle.std.proofs.lemmas.Result.{err_from_is_err_and}
use Rattle.m_ports.proofs.GivingLemmas.{piece_given, piece_failed, all_given}
use Rattle.code_file.specs.Text.{input_line}
use Rattle.code_file.proofs.LineLemmas.{lines-at, lines-end}
use Rattle.code_file.proofs.face_lines.give_inputs.Goals as goal

pub returns-in_err-give_input : goal.returns-in_err-give_input
returns-in_err-give_input g c =
    let p = err_from_is_err_and c.from_residual.result c.from_residual.ensures.1 in
    let gave = c.in_err-give_input.ensures in
    piece_failed _ _ _ _ _ _ _ _ _ _ _ p.1 (lines-at input_line c.args.inputs.now c.loop-k.k _ _ c.loop-k-test.true c.index-inputs-k.is) c.loop-k.invariant
    gave.failed gave.prefix gave.counted

pub loop-k-preserved : goal.loop-k-preserved
loop-k-preserved g c =
    let gave = c.in_ok-give_input.ensures in
    piece_given _ _ _ _ _ _ _ _ _ (lines-at input_line c.args.inputs.now c.loop-k.k _ _ c.loop-k-test.true c.index-inputs-k.is) c.loop-k.invariant gave.all
    gave.faultless

pub returns : goal.returns
returns g c = all_given _ _ _ _ _ _ tt refl (rw (lines-end input_line c.args.inputs.now c.loop-k.k c.loop-k-test.false) at c.loop-k.invariant)
