use Rattle.std.proofs.Common.{refl, sym}
use Rattle.m_lexer.specs.Tokens.{number}
use Rattle.m_lexer.proofs.Numbers.{too_great_only}
use Rattle.m_lexer.proofs.scan.number_kind.Goals as goal

pub returns-in_ok-new-in-Ok : goal.returns-in_ok-new-in-Ok
returns-in_ok-new-in-Ok c = record { outcome = rw c.in_ok-new-in-Ok.ensures (number c.requires (sym c.in-Ok.ensures)) }

pub returns-in-Err : goal.returns-in-Err
returns-in-Err c = record { outcome = λ _. (refl, (c.requires, too_great_only c.args.text.now _ c.requires c.in-Err.ensures)) }
