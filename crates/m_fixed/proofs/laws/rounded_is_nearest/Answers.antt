use Rattle.m_fixed.proofs.Nearest.{rounded_is_nearest, nearest_is_rounded}
use Rattle.m_fixed.proofs.laws.rounded_is_nearest.Goals as goal

pub returns-clause-nearest : goal.returns-clause-nearest
returns-clause-nearest c = rounded_is_nearest

pub returns-clause-only : goal.returns-clause-only
returns-clause-only c = nearest_is_rounded
