use Rattle.m_lexer.specs.Tokens.{word, key}
use Rattle.m_lexer.proofs.scan.word_kind.Goals as goal

pub returns-in-Some : goal.returns-in-Some
returns-in-Some c = key c.requires c.in-Some.ensures

pub returns-in_ok-new-in-None : goal.returns-in_ok-new-in-None
returns-in_ok-new-in-None c = rw c.in_ok-new-in-None.ensures (word c.requires c.in-None.ensures)
