use Rattle.micro_m.proofs.TurnLemmas.{further_turns}
use Rattle.micro_m.proofs.laws.further_turns_change_nothing.Goals as goal

pub returns : goal.returns
returns c = further_turns
