use Rattle.definedness.proofs.ExactFacts.{one_value_holds, one_value_is}
use Rattle.definedness.proofs.laws.one_value_is_all.Goals as goal

pub returns-clause-holds : goal.returns-clause-holds
returns-clause-holds c = one_value_holds

pub returns-clause-only : goal.returns-clause-only
returns-clause-only c = one_value_is
