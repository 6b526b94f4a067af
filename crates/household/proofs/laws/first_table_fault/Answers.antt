use Rattle.household.proofs.LawLemmas.{table_fault_is}
use Rattle.household.proofs.laws.first_table_fault.Goals as goal

pub returns : goal.returns
returns c = table_fault_is
