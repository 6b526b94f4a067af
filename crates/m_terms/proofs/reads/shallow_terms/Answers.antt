use Rattle.m_terms.proofs.Shallow.{shallow}
use Rattle.m_terms.proofs.reads.shallow_terms.Goals as goal

pub returns : goal.returns
returns c = shallow
