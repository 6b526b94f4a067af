use Rattle.m_fixed.proofs.Values.{zero_to_undefined, zero_is_not_undefined}
use Rattle.m_fixed.proofs.laws.zero_added_to_undefined.Goals as goal

pub returns-clause-zero : goal.returns-clause-zero
returns-clause-zero c = zero_to_undefined

pub returns-clause-not_undefined : goal.returns-clause-not_undefined
returns-clause-not_undefined c = zero_is_not_undefined
