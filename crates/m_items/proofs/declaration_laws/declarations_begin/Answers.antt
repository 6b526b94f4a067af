use Rattle.m_items.proofs.Answered.{declaration_begins}
use Rattle.m_items.proofs.declaration_laws.declarations_begin.Goals as goal

pub returns : goal.returns
returns c = declaration_begins
