use Rattle.input_ranges.proofs.RowLemmas.{ranges_are_read, read_ranges_are}
use Rattle.input_ranges.proofs.laws.one_reading.Goals as goal

pub returns-clause-sound : goal.returns-clause-sound
returns-clause-sound c = read_ranges_are

pub returns-clause-whole : goal.returns-clause-whole
returns-clause-whole c = ranges_are_read
