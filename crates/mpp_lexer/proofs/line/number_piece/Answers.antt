use Rattle.std.proofs.Common.{sym}
use Rattle.mpp_lexer.specs.Tokens.{number}
use Rattle.m_lexer.proofs.Numbers.{too_great_only}
use Rattle.mpp_lexer.proofs.line.number_piece.Goals as goal

pub returns-in_ok-new-in-Ok : goal.returns-in_ok-new-in-Ok
returns-in_ok-new-in-Ok c = rw c.in_ok-new-in-Ok.ensures (number c.requires (sym c.in-Ok.ensures))

pub returns-in-Err : goal.returns-in-Err
returns-in-Err c = (c.requires, too_great_only c.args.text.now _ c.requires c.in-Err.ensures)
