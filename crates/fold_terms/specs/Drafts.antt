-- A flat program under construction.
use Rattle.std.specs.Prelude.{◌≡◌, ℕ, ◌<◌, ◌⊎◌, List, [], ◌∷◌, ◌++◌, length}
use Rattle.m_fixed.specs.declared.amount.Value.{Value}
use Rattle.flat_code.specs.declared.program.Node.{Node}
use Rattle.flat_code.specs.Runs.{entry_of, values_for, node_values}
use Rattle.flat_code.specs.Entries.{entry_at}
use Rattle.flat_code.specs.Facts.{ArePlain}

-- the number of inputs, and the nodes so far
pub record Draft : Type 0 where
  pub inputs : ℕ
  pub nodes : List Node

-- At most one node is appended; the old nodes are unchanged.
abbrev pub Grows : Draft → Draft → Type 0
Grows old new = (new ≡ old) ⊎ ((node : Node) × (new ≡ record old { nodes = old.nodes ++ node ∷ [] }))

-- Nothing is appended, or the appended node has number k.
abbrev pub AddsAnswer : List Node → List Node → ℕ → Type 0
AddsAnswer old new k = (new ≡ old) ⊎ (k ≡ length old)

-- Node k exists, and has the value of `node` for all plain inputs (each undefined or an amount).
pub record Denotes (nodes : List Node) (node : Node) (k : ℕ) : Type 0 where
  pub within : k < length nodes
  pub value : (inputs : List Value) → ArePlain inputs → entry_at (values_for inputs) nodes k ≡ entry_of (values_for inputs) (node_values inputs nodes) node
