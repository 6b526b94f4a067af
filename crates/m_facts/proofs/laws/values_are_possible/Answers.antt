use Rattle.m_facts.proofs.TruthLemmas.{possible-true}
use Rattle.m_facts.proofs.laws.values_are_possible.Goals as goal

pub returns : goal.returns
returns c = possible-true
