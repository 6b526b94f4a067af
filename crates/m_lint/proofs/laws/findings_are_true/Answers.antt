use Rattle.m_lint.proofs.TruthLemmas.{all_true}
use Rattle.m_lint.proofs.laws.findings_are_true.Goals as goal

pub returns : goal.returns
returns c = all_true
