use Rattle.household.proofs.LawLemmas.{household_is_read, read_household_is}
use Rattle.household.proofs.laws.one_household.Goals as goal

pub returns-clause-sound : goal.returns-clause-sound
returns-clause-sound c = read_household_is

pub returns-clause-whole : goal.returns-clause-whole
returns-clause-whole c = household_is_read
