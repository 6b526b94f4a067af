use Rattle.micro_m.proofs.TurnLemmas.{values-solve}
use Rattle.micro_m.proofs.laws.values_solve.Goals as goal

pub returns : goal.returns
returns c = values-solve
