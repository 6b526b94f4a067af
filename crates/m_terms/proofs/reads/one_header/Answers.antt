use Rattle.m_terms.proofs.Answered.{header_one}
use Rattle.m_terms.proofs.reads.one_header.Goals as goal

pub returns : goal.returns
returns c = header_one
