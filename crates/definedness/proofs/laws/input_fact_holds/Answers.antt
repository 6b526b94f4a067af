use Rattle.definedness.proofs.ExactFacts.{input_fact_holds}
use Rattle.definedness.proofs.laws.input_fact_holds.Goals as goal

pub returns : goal.returns
returns c = input_fact_holds
