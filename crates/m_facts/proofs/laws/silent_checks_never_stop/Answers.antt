use Rattle.m_facts.proofs.TruthLemmas.{silent-true}
use Rattle.m_facts.proofs.laws.silent_checks_never_stop.Goals as goal

pub returns : goal.returns
returns c = silent-true
