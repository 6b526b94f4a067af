use Rattle.definedness.proofs.ExactFacts.{held_is_value}
use Rattle.definedness.proofs.laws.facts_hold_of_values.Goals as goal

pub returns : goal.returns
returns c = held_is_value
