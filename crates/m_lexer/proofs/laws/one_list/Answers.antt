use Rattle.m_lexer.proofs.OneReading.{one_list}
use Rattle.m_lexer.proofs.laws.one_list.Goals as goal

pub returns : goal.returns
returns c = one_list
