-- Cells of inputs by an attribute and its value, in the order in which they were added.
use Rattle.std.specs.Prelude.{ℕ, ℤ, List, [], ◌∷◌, ◌++◌, Option, Some, None, if◌then◌else◌}
use Rattle.std.specs.declared.cmp.Ordering.{Ordering}
use Rattle.std.specs.List.{list_any}
use Rattle.std.specs.Ordering.{nat_cmp, int_cmp, int_eq, ordering_then}
use Rattle.std.specs.BTreeMap.{get}
use Rattle.std.specs.declared.alloc.Global.{Global}
use Rattle.std.specs.declared.vec.Vec.{Vec}
use Rattle.m_names.specs.Names.{index_of}
use Rattle.driver_core.specs.declared.kind_index.KindIndex.{KindIndex}

-- keys by the number of their attribute, and then by value
abbrev pub key_order : ℕ × ℤ → ℕ × ℤ → Ordering
key_order x y = ordering_then (nat_cmp x.0 y.0) (int_cmp x.1 y.1)

abbrev pub cells_of : Option (Vec ℕ Global) → List ℕ
cells_of None = []
cells_of (Some cells) = cells.items

-- the cells that have this value of the attribute with this number
abbrev pub group_at : KindIndex → ℕ → ℤ → List ℕ
group_at index attribute value = cells_of (get key_order index.groups (attribute, value))

abbrev pub group_of : KindIndex → ℤ → Option ℕ → List ℕ
group_of index value None = []
group_of index value (Some attribute) = group_at index attribute value

-- the cells that have this value of an attribute
abbrev pub group_in : KindIndex → List ℕ → ℤ → List ℕ
group_in index attribute value = group_of index value (index_of attribute index.attributes)

-- the concatenated cells of these values of the attribute with this number
abbrev pub joined : KindIndex → ℕ → List ℤ → List ℕ
joined index attribute [] = []
joined index attribute (v ∷ vs) = group_at index attribute v ++ joined index attribute vs

-- the same for distinct values
abbrev pub groups_at : KindIndex → ℕ → List ℤ → List ℕ
groups_at index attribute [] = []
groups_at index attribute (v ∷ vs) = (if list_any (int_eq v) vs then [] else group_at index attribute v) ++ groups_at index attribute vs

abbrev pub groups_of : KindIndex → List ℤ → Option ℕ → List ℕ
groups_of index values None = []
groups_of index values (Some attribute) = groups_at index attribute values

-- the concatenated cells of the distinct ones of these values of an attribute
abbrev pub groups_in : KindIndex → List ℕ → List ℤ → List ℕ
groups_in index attribute values = groups_of index values (index_of attribute index.attributes)
