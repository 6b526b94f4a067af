use Rattle.std.proofs.Common.{◌≡◌, drop}
use Rattle.std.specs.List.{flat_map}
use Rattle.index_expand.specs.LoopFaults.{least, formula_faults}
use Rattle.index_expand.proofs.items.with_formulas.Given as goal

abbrev pub invariant-loop-formula : goal.invariant-loop-formula
invariant-loop-formula l = least l.first (flat_map formula_faults (drop l.formula-index l.formulas)) ≡ least l.initial.first
    (flat_map formula_faults l.formulas)
