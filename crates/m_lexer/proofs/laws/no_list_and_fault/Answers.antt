use Rattle.m_lexer.proofs.OneReading.{no_list_and_fault}
use Rattle.m_lexer.proofs.laws.no_list_and_fault.Goals as goal

pub returns : goal.returns
returns c = no_list_and_fault
