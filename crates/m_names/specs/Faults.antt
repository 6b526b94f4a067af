-- Why names are rejected.
use Rattle.std.specs.Prelude.{◌≡◌, ℕ, ◌<◌, List, [], length, take, Some, slice_index_or}
use Rattle.m_names.specs.Names.{index_of, AreDistinct}
use Rattle.m_names.specs.declared.fault.NamesFault.{NamesFault}
use Rattle.m_names.specs.declared.fault.NamesFault.TheVariants.{Repeated, Memory}

-- The first repeated name: those before `later` are distinct, and the name at `later` occurs first
-- at `earlier`. In `A B A B` the first repeat is at 2, of the name at 0.
pub record IsFirstRepeat (names : List (List ℕ)) (earlier later : ℕ) : Type 0 where
  pub within : later < length names
  pub distinct : AreDistinct (take later names)
  pub first : index_of (slice_index_or names later []) (take later names) ≡ Some earlier

-- what an error states of the names; nothing, if memory ran out
abbrev pub Repeats : List (List ℕ) → NamesFault → Type 0
Repeats names (Repeated earlier later) = IsFirstRepeat names earlier later
Repeats names Memory = ⊥
