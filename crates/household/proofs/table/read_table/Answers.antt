use Rattle.household.proofs.ColumnLemmas.{table_inputs, table_types}
use Rattle.household.specs.Reader.{left_of}
use Rattle.household.proofs.table.read_table.Goals as goal

pub returns-clause-inputs : goal.returns-clause-inputs
returns-clause-inputs g c = rw c.from_vec.ensures
    (table_inputs c.args.codes.now _ _ _ _ c.in_ok-columns.ensures (rw c.deref.ensures.value at c.in_ok-rows.ensures))

pub returns-clause-amounts : goal.returns-clause-amounts
returns-clause-amounts g c = rw c.from_vec.ensures (table_types c.args.codes.now c.in_ok-columns.columns.items (left_of c.next_record.new.records) _
    (rw c.deref.ensures.value at c.in_ok-rows.ensures))
