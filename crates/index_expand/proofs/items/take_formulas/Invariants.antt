use Rattle.std.proofs.Common.{◌≡◌, take}
use Rattle.std.specs.List.{flat_map, sum_by}
use Rattle.index_expand.specs.Expansion.{formula_definitions}
use Rattle.index_expand.specs.Faults.{formula_parts}
use Rattle.index_expand.specs.inner.Taken.{IsTaken}
use Rattle.index_expand.proofs.items.take_formulas.Given as goal

abbrev pub invariant-loop-formula : goal.invariant-loop-formula
invariant-loop-formula l = record {
  letters : l.letters ≡ l.initial.letters;
  taken : IsTaken l.initial.definitions.items l.definitions.items (flat_map (formula_definitions l.symbols) (take l.formula-index l.formulas))
      (sum_by (formula_parts l.symbols) (take l.formula-index l.formulas)) l.total l.count;
}
