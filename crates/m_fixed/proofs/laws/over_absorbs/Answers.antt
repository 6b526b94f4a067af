use Rattle.m_fixed.proofs.Values.{over_first, over_second}
use Rattle.m_fixed.proofs.laws.over_absorbs.Goals as goal

pub returns-clause-first : goal.returns-clause-first
returns-clause-first c = over_first

pub returns-clause-second : goal.returns-clause-second
returns-clause-second c = over_second
