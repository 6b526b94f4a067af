-- Numbering of nodes: equal nodes have equal numbers.
use Rattle.std.specs.Prelude.{◌≡◌, ℕ, ◌<◌, ◌⊎◌, List, [], ◌∷◌, ◌++◌, length}
use Rattle.flat_code.specs.declared.program.Node.{Node}
use Rattle.flat_code.specs.Entries.{node_at}

-- no node is equal to this one
abbrev pub IsAbsent : List Node → Node → Type 0
IsAbsent nodes node = (j : ℕ) → j < length nodes → node_at nodes j ≡ node → ⊥

-- no two nodes are equal
abbrev pub AreApart : List Node → Type 0
AreApart nodes = (p q : ℕ) → p < length nodes → q < length nodes → node_at nodes p ≡ node_at nodes q → p ≡ q

-- The node has number k among the new nodes. It was appended if no old node was equal to it;
-- otherwise the list is unchanged.
pub record IsEntered (old new : List Node) (node : Node) (k : ℕ) : Type 0 where
  pub within : k < length new
  pub is : node_at new k ≡ node
  pub adds : (new ≡ old) ⊎ ((new ≡ old ++ node ∷ []) × IsAbsent old node)
