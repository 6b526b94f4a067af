use Rattle.household.proofs.InputLemmas.{household_inputs, household_types}
use Rattle.household.proofs.read.read_household.Goals as goal

pub returns-clause-inputs : goal.returns-clause-inputs
returns-clause-inputs c = rw c.from_vec.ensures (household_inputs c.args.codes.now _ _ c.in_ok-pairs.ensures)

pub returns-clause-amounts : goal.returns-clause-amounts
returns-clause-amounts c = rw c.from_vec.ensures (household_types c.args.codes.now _ _ c.in_ok-pairs.ensures)
