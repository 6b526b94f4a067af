use Rattle.household.proofs.LawLemmas.{household_fault_is}
use Rattle.household.proofs.laws.first_fault.Goals as goal

pub returns : goal.returns
returns c = household_fault_is
