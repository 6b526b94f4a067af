use Rattle.household.proofs.TableLemmas.{read_table_is, table_is_read}
use Rattle.household.proofs.laws.one_table.Goals as goal

pub returns-clause-sound : goal.returns-clause-sound
returns-clause-sound c = read_table_is

pub returns-clause-whole : goal.returns-clause-whole
returns-clause-whole c = table_is_read
