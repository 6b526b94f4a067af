use Rattle.std.proofs.Common.{drop}
use Rattle.m_text.specs.Pieces.{text_of}
use Rattle.m_ports.proofs.GivingLemmas.{Given}
use Rattle.m_ports.proofs.pieces.give_pieces.Given as goal

abbrev pub invariant-loop-piece : goal.invariant-loop-piece
invariant-loop-piece g l = Given g.K.Sink.written g.K.Sink.faults l.initial.out l.out (text_of l.pieces) (text_of (drop l.piece-index l.pieces))
