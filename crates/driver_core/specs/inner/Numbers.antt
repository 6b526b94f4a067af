-- The numbers of attributes.
use Rattle.std.specs.Prelude.{◌≡◌, ◌≤◌, ◌⊎◌, ℕ, ℤ, false, List, [], ◌∷◌, ◌++◌, length, Some, None}
use Rattle.std.specs.BTreeMap.{get}
use Rattle.m_names.specs.Names.{has, index_of}
use Rattle.driver_core.specs.declared.kind_index.KindIndex.{KindIndex}
use Rattle.driver_core.specs.Groups.{key_order}

-- the index has no cells for numbers that aren't an attribute's
abbrev pub IsNumbered : KindIndex → Type 0
IsNumbered index = (attribute : ℕ) (value : ℤ) → length index.attributes ≤ attribute → get key_order index.groups (attribute, value) ≡ None

-- a known attribute has its number, and a new one is numbered after all others
abbrev pub HasNumber : List (List ℕ) → List ℕ → ℕ → List (List ℕ) → Type 0
HasNumber old attribute n new = ((index_of attribute old ≡ Some n) × (new ≡ old)) ⊎ ((has attribute old ≡ false) × (n ≡ length old)
    × (new ≡ old ++ attribute ∷ []))
