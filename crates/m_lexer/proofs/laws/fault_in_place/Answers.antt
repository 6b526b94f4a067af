use Rattle.m_lexer.proofs.InPlace.{fault_in_place}
use Rattle.m_lexer.proofs.laws.fault_in_place.Goals as goal

pub returns : goal.returns
returns c = fault_in_place
