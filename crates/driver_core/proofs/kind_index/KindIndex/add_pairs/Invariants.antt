use Rattle.std.proofs.Common.{◌≡◌, ◌≤◌, ◌++◌, ◌∷◌, [], ℕ, ℤ, List, cond, length, drop}
use Rattle.std.specs.Option.{is_some}
use Rattle.m_names.specs.Names.{has}
use Rattle.m_symbols.specs.Kinds.{last_value, is_one_of}
use Rattle.driver_core.specs.Groups.{group_in}
use Rattle.driver_core.specs.inner.Numbers.{IsNumbered}
use Rattle.driver_core.proofs.kind_index.KindIndex.add_pairs.Given as goal

abbrev pub invariant-loop-left : goal.invariant-loop-left
invariant-loop-left l = record {
  within : l.left ≤ length l.pairs;
  numbered : IsNumbered l.self;
  seen : (a : List ℕ) → has a l.seen ≡ is_some (last_value a (drop l.left l.pairs));
  added : (a : List ℕ) (v : ℤ) → group_in l.self a v ≡ group_in l.fn.self a v ++ cond (is_one_of (last_value a (drop l.left l.pairs)) (v ∷ [])) (l.cell ∷ [])
      [];
}

abbrev pub decreases-loop-left : goal.decreases-loop-left
decreases-loop-left l = l.left
