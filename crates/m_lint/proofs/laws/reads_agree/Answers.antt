use Rattle.m_lint.proofs.ReadLemmas.{read-is, is-read}
use Rattle.m_lint.proofs.laws.reads_agree.Goals as goal

pub returns : goal.returns
returns c = record { sound = read-is; complete = is-read }
