use Rattle.std.proofs.lemmas.Result.{err_from_is_err_and}
use Rattle.m_ports.proofs.GivingLemmas.{none_given, piece_at, piece_given, piece_failed}
use Rattle.m_ports.proofs.pieces.give_pieces.Goals as goal

pub loop-piece-init : goal.loop-piece-init
loop-piece-init g c = none_given _ _ _ _

pub returns-in_err-give_all : goal.returns-in_err-give_all
returns-in_err-give_all g c =
    let p = err_from_is_err_and c.from_residual.result c.from_residual.ensures.1 in
    let gave = c.in_err-give_all.ensures in
    piece_failed _ _ _ _ _ _ _ _ _ _ _ p.1 (piece_at c.args.pieces.now c.loop-piece.piece-index _ c.loop-piece-test.true)
    c.loop-piece.invariant gave.failed gave.prefix gave.counted

pub loop-piece-preserved : goal.loop-piece-preserved
loop-piece-preserved g c =
    let gave = c.in_ok-give_all.ensures in
    piece_given _ _ _ _ _ _ _ _ _ (piece_at c.args.pieces.now c.loop-piece.piece-index _ c.loop-piece-test.true)
    c.loop-piece.invariant gave.all gave.faultless
