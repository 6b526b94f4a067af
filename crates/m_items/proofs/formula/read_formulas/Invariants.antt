use Rattle.std.proofs.Common.{◌<◌, length}
use Rattle.m_items.specs.inner.RuleReading.{formula_at}
use Rattle.m_items.proofs.Manys.{Begun}
use Rattle.m_items.proofs.formula.read_formulas.Given as goal

abbrev pub invariant-formulas : goal.invariant-formulas
invariant-formulas l = record {
  shorter : length l.cursor < length l.fn.cursor;
  begun : Begun formula_at l.fn.cursor l.formulas.items l.cursor;
}

abbrev pub decreases-formulas : goal.decreases-formulas
decreases-formulas l = length l.cursor
