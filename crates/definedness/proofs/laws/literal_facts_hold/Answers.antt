use Rattle.definedness.proofs.FactLaws.{value_fact_holds}
use Rattle.definedness.proofs.ExactFacts.{value_fact_is_one}
use Rattle.definedness.proofs.laws.literal_facts_hold.Goals as goal

pub returns-clause-holds : goal.returns-clause-holds
returns-clause-holds c = value_fact_holds

pub returns-clause-one : goal.returns-clause-one
returns-clause-one c = value_fact_is_one
