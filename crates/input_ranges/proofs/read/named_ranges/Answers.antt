use Rattle.input_ranges.proofs.RowLemmas.{ranges_known}
use Rattle.input_ranges.proofs.read.named_ranges.Goals as goal

pub returns-clause-known : goal.returns-clause-known
returns-clause-known c = rw c.from_vec.ensures (ranges_known c.args.inputs.now _ _ c.in_ok-ranges.ensures)
