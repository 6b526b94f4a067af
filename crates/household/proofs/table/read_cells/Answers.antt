use Rattle.std.proofs.Common.{sym, ◌∙◌}
use Rattle.csv.specs.Records.{fields_of}
use Rattle.household.proofs.CellLemmas.{empty_cell, filled_cell}
use Rattle.household.proofs.table.read_cells.Goals as goal
use Rattle.household.proofs.table.read_cells.Goals.{then-not-is_empty+in_ok-read_cell+in_ok-push, else-not-is_empty}

pub loop-column-preserved : goal.loop-column-preserved
loop-column-preserved c =
    elim c.if-not-is_empty.branch [
      | then-not-is_empty+in_ok-read_cell+in_ok-push w ↦
          rw w.pairs-is (sym (filled_cell c.args.line c.loop-column.pairs.items _ c.args.columns.now (fields_of c.args.row.now) c.loop-column.column
          c.field_at-cell.result.now _ c.requires c.loop-column-test.true
          c.field_at-cell.ensures w.if-not-is_empty.ensures w.in_ok-read_cell.ensures w.in_ok-push.ensures.items) ∙ c.loop-column.invariant)
      | else-not-is_empty w ↦
          rw w.pairs-is (sym (empty_cell c.args.line c.loop-column.pairs.items c.args.columns.now (fields_of c.args.row.now) c.loop-column.column
          c.field_at-cell.result.now c.requires c.loop-column-test.true
          c.field_at-cell.ensures w.if-not-is_empty.ensures) ∙ c.loop-column.invariant)
    ]
