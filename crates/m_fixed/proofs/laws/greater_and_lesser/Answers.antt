use Rattle.m_fixed.proofs.Values.{greater_value, lesser_value}
use Rattle.m_fixed.proofs.laws.greater_and_lesser.Goals as goal

pub returns-clause-greater : goal.returns-clause-greater
returns-clause-greater c = greater_value

pub returns-clause-lesser : goal.returns-clause-lesser
returns-clause-lesser c = lesser_value
