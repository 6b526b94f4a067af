use Rattle.flat_code.proofs.PassLemmas.{becomes-then}
use Rattle.flat_code.proofs.laws.passes_compose.Goals as goal

pub returns : goal.returns
returns c = becomes-then
