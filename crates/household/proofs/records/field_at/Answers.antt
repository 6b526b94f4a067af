use Rattle.std.proofs.Common.{sym}
use Rattle.csv.specs.Records.{fields_of}
use Rattle.household.proofs.LeftLemmas.{field_there, no_field_there}
use Rattle.household.proofs.records.field_at.Goals as goal

pub returns-in-Some : goal.returns-in-Some
returns-in-Some c = field_there (fields_of c.args.row.now) c.args.place _ (sym (rw c.in-Some.is at c.get.ensures.value))

pub returns-in-None : goal.returns-in-None
returns-in-None c = sym (no_field_there (fields_of c.args.row.now) c.args.place (sym (rw c.in-None.is at c.get.ensures.value)))
