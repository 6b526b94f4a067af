use Rattle.m_items.proofs.Answered.{applications_one}
use Rattle.m_items.proofs.declaration_laws.one_list_of_applications.Goals as goal

pub returns : goal.returns
returns c = applications_one
