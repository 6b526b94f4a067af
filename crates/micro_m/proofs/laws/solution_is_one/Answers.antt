use Rattle.micro_m.proofs.TurnLemmas.{one-solution}
use Rattle.micro_m.proofs.laws.solution_is_one.Goals as goal

pub returns : goal.returns
returns c = one-solution
