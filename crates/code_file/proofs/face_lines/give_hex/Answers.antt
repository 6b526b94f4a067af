use Rattle.std.proofs.Common.{refl}
use Rattle.std.proofs.lemmas.Result.{err_from_is_err_and}
use Rattle.m_ports.proofs.GivingLemmas.{piece_given, piece_failed, all_given}
use Rattle.code_file.proofs.LineLemmas.{hex-at, hex-end}
use Rattle.code_file.proofs.face_lines.give_hex.Goals as goal

pub returns-in_err-give_byte : goal.returns-in_err-give_byte
returns-in_err-give_byte g c =
    let p = err_from_is_err_and c.from_residual.result c.from_residual.ensures.1 in
    let gave = c.in_err-give_byte.ensures in
    piece_failed _ _ _ _ _ _ _ _ _ _ _ p.1 (hex-at c.args.text.now c.loop-byte.byte-index c.loop-byte-test.true) c.loop-byte.invariant gave.failed gave.prefix
    gave.counted

pub loop-byte-preserved : goal.loop-byte-preserved
loop-byte-preserved g c =
    let gave = c.in_ok-give_byte.ensures in
    piece_given _ _ _ _ _ _ _ _ _ (hex-at c.args.text.now c.loop-byte.byte-index c.loop-byte-test.true) c.loop-byte.invariant gave.all gave.faultless

pub returns : goal.returns
returns g c = all_given _ _ _ _ _ _ tt refl (rw (hex-end c.args.text.now c.loop-byte.byte-index c.loop-byte-test.false) at c.loop-byte.invariant)
