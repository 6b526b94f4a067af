use Rattle.std.proofs.Common.{◌≡◌, ◌++◌, ◌∷◌, [], ℕ, ℤ, List, drop}
use Rattle.driver_core.specs.Groups.{group_in}
use Rattle.driver_core.specs.Kinds.{cells_with}
use Rattle.driver_core.specs.inner.Numbers.{IsNumbered}
use Rattle.driver_core.proofs.kind_index.KindIndex.of.Given as goal

abbrev pub invariant-loop-v : goal.invariant-loop-v
invariant-loop-v l = record {
  numbered : IsNumbered l.index;
  added : (a : List ℕ) (v : ℤ) → group_in l.index a v ++ cells_with a (v ∷ []) (drop l.v l.symbols.variables) ≡ cells_with a (v ∷ []) l.symbols.variables;
}
