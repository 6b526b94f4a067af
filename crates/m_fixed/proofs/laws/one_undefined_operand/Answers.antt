use Rattle.m_fixed.proofs.Values.{sum_first, sum_second, difference_first}
use Rattle.m_fixed.proofs.laws.one_undefined_operand.Goals as goal

pub returns-clause-first : goal.returns-clause-first
returns-clause-first c = sum_first

pub returns-clause-second : goal.returns-clause-second
returns-clause-second c = sum_second

pub returns-clause-difference : goal.returns-clause-difference
returns-clause-difference c = difference_first
