use Rattle.std.proofs.Common.{◌≡◌, ◌++◌, drop}
use Rattle.m_text.specs.Pieces.{text_of}
use Rattle.m_text.proofs.pieces.append_pieces.Given as goal

abbrev pub invariant-loop-piece : goal.invariant-loop-piece
invariant-loop-piece l = l.text.items ++ text_of (drop l.piece-index l.pieces) ≡ l.initial.text.items ++ text_of l.pieces
