use Rattle.household.proofs.GivenLemmas.{household_gives, table_gives}
use Rattle.household.proofs.laws.given_values.Goals as goal

pub returns-clause-household : goal.returns-clause-household
returns-clause-household c = household_gives

pub returns-clause-table : goal.returns-clause-table
returns-clause-table c = table_gives
