use Rattle.m_fixed.proofs.Values.{second_is_ignored, third_is_ignored}
use Rattle.m_fixed.proofs.laws.further_arguments_are_ignored.Goals as goal

pub returns-clause-one : goal.returns-clause-one
returns-clause-one c = second_is_ignored

pub returns-clause-two : goal.returns-clause-two
returns-clause-two c = third_is_ignored
