use Rattle.m_lexer.proofs.OneReading.{one_first_fault}
use Rattle.m_lexer.proofs.laws.one_first_fault.Goals as goal

pub returns : goal.returns
returns c = one_first_fault
