use Rattle.value_sheet.specs.inner.Table.{IsFilled}
use Rattle.value_sheet.proofs.rows.Rows.of_sources.Given as goal

abbrev pub invariant-loop-source : goal.invariant-loop-source
invariant-loop-source l = IsFilled l.per l.sources l.source l.offsets.items l.targets.items
