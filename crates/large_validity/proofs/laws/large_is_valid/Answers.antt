use Rattle.large_validity.proofs.Valid.{is_valid}
use Rattle.large_validity.proofs.laws.large_is_valid.Goals as goal

pub returns : goal.returns
returns c = is_valid
