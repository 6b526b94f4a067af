use Rattle.input_ranges.proofs.RowLemmas.{ranges_fault_is}
use Rattle.input_ranges.proofs.laws.first_fault.Goals as goal

pub returns : goal.returns
returns c = ranges_fault_is
