use Rattle.m_terms.proofs.Answered.{term_one}
use Rattle.m_terms.proofs.reads.one_term.Goals as goal

pub returns : goal.returns
returns c = term_one
