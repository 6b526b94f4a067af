use Rattle.std.proofs.Common.{get_or, refl}
use Rattle.std.proofs.lemmas.Result.{err_from_is_err_and}
use Rattle.m_ports.proofs.GivingLemmas.{piece_given, piece_failed, all_given}
use Rattle.survey_commands.specs.Csv.{quoted_byte}
use Rattle.survey_commands.proofs.EachLemmas.{each_at, each_end}
use Rattle.survey_commands.proofs.csv.give_bytes.Goals as goal

pub returns-in_err-give_byte : goal.returns-in_err-give_byte
returns-in_err-give_byte g c =
    let p = err_from_is_err_and c.from_residual.result c.from_residual.ensures.1 in
    let gave = c.in_err-give_byte.ensures in
    piece_failed _ _ _ _ _ _ _ _ _ _ _ p.1 (each_at quoted_byte c.args.bytes.now c.loop-byte.byte-index (get_or c.args.bytes.now c.loop-byte.byte-index 0) 0
    c.loop-byte-test.true refl)
    c.loop-byte.invariant gave.failed gave.prefix gave.counted

pub loop-byte-preserved : goal.loop-byte-preserved
loop-byte-preserved g c =
    let gave = c.in_ok-give_byte.ensures in
    piece_given _ _ _ _ _ _ _ _ _ (each_at quoted_byte c.args.bytes.now c.loop-byte.byte-index (get_or c.args.bytes.now c.loop-byte.byte-index 0) 0
    c.loop-byte-test.true refl)
    c.loop-byte.invariant gave.all gave.faultless

pub returns : goal.returns
returns g c = all_given _ _ _ _ _ _ _ refl (rw (each_end quoted_byte c.args.bytes.now c.loop-byte.byte-index c.loop-byte-test.false) at c.loop-byte.invariant)
