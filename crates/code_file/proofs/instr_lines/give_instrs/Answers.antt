use Rattle.std.proofs.Common.{refl, arith}
use Rattle.std.proofs.lemmas.Result.{err_from_is_err_and}
use Rattle.m_ports.proofs.GivingLemmas.{piece_given, piece_failed, all_given}
use Rattle.code_file.specs.Text.{instr_line}
use Rattle.code_file.proofs.LineLemmas.{lines-at, lines-end}
use Rattle.code_file.proofs.instr_lines.give_instrs.Goals as goal

pub returns-in_err-give_instr : goal.returns-in_err-give_instr
returns-in_err-give_instr g c =
    let p = err_from_is_err_and c.from_residual.result c.from_residual.ensures.1 in
    let gave = c.in_err-give_instr.ensures in
    piece_failed _ _ _ _ _ _ _ _ _ _ _ p.1 (lines-at instr_line c.args.code.now.instrs c.loop-place.place _ _
    (omega (arith, c.loop-place-test.true, c.len-place-end.ensures)) c.instr.ensures) c.loop-place.invariant gave.failed gave.prefix gave.counted

pub loop-place-preserved : goal.loop-place-preserved
loop-place-preserved g c =
    let gave = c.in_ok-give_instr.ensures in
    piece_given _ _ _ _ _ _ _ _ _ (lines-at instr_line c.args.code.now.instrs c.loop-place.place _ _
    (omega (arith, c.loop-place-test.true, c.len-place-end.ensures)) c.instr.ensures) c.loop-place.invariant gave.all gave.faultless

pub returns : goal.returns
returns g c = all_given _ _ _ _ _ _ tt refl
    (rw (lines-end instr_line c.args.code.now.instrs c.loop-place.place (omega (arith, c.loop-place-test.false, c.len-place-end.ensures))) at
    c.loop-place.invariant)
