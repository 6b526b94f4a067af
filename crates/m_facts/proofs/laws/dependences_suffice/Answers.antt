use Rattle.m_facts.proofs.TruthLemmas.{depends-true}
use Rattle.m_facts.proofs.laws.dependences_suffice.Goals as goal

pub returns : goal.returns
returns c = depends-true
