use Rattle.definedness.proofs.FactLaws.{operator_fact_holds}
use Rattle.definedness.proofs.laws.operator_facts_hold.Goals as goal

pub returns : goal.returns
returns c = operator_fact_holds
