use Rattle.m_lexer.proofs.InPlace.{tokens_in_place}
use Rattle.m_lexer.proofs.laws.tokens_in_place.Goals as goal

pub returns : goal.returns
returns c = tokens_in_place
