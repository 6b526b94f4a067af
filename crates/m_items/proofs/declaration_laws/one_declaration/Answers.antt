use Rattle.m_items.proofs.Answered.{declaration_one}
use Rattle.m_items.proofs.declaration_laws.one_declaration.Goals as goal

pub returns : goal.returns
returns c = declaration_one
