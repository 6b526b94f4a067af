-- The steps to the tidy form, and their invariants.
use Rattle.std.specs.Prelude.{◌≡◌, ℕ, zero, suc, ◌<◌, ◌≤◌, Bool, true, false, ◌⊎◌, List, length, map, slice_index_or, if◌then◌else◌}
use Rattle.m_fixed.specs.declared.amount.Value.{Value}
use Rattle.flat_code.specs.declared.program.Node.{Node}
use Rattle.flat_code.specs.declared.program.Node.TheVariants.{Input, Lit, Do}
use Rattle.flat_code.specs.declared.program.Check.{Check}
use Rattle.flat_code.specs.declared.program.Flat.{Flat}
use Rattle.flat_code.specs.Runs.{values_for}
use Rattle.flat_code.specs.Entries.{node_at, entry_at}
use Rattle.flat_code.specs.Facts.{ArePlain}
use Rattle.flat_code.specs.Tidy.{Reads, ReadsCheck, IsRoot, IsReached, check_at}
use Rattle.flat_code.specs.inner.Renumber.{renamed, moved}

-- a node whose arguments are below k
abbrev pub ReadsBelow : ℕ → Node → Type 0
ReadsBelow k (Input n) = Unit {0}
ReadsBelow k (Lit v) = Unit {0}
ReadsBelow k (Do op a b c) = (a < k) × (b < k) × (c < k)

-- the new number of a node, by a table
abbrev pub look : List ℕ → ℕ → ℕ
look numbers x = slice_index_or numbers x 0

-- the program of these nodes, with the checks and outputs of another, renumbered
abbrev pub with_nodes : Flat → List Node → (ℕ → ℕ) → Flat
with_nodes flat nodes m = record { inputs = flat.inputs; nodes = nodes; checks = map (moved m) flat.checks; outputs = map m flat.outputs }

-- The first i nodes were pushed into a builder, whose nodes are `built`; `numbers` maps each to its
-- number there.
pub record IsCarried (nodes : List Node) (i : ℕ) (built : List Node) (numbers : List ℕ) : Type 0 where
  pub size : length numbers ≡ i
  pub few : length built ≤ i
  pub within : (q : ℕ) → q < i → look numbers q < length built
  pub value : (q : ℕ) → q < i → (inputs : List Value) → ArePlain inputs → entry_at (values_for inputs) built (look numbers q) ≡ entry_at (values_for inputs)
      nodes q

abbrev pub is_live : List Bool → ℕ → Bool
is_live live x = slice_index_or live x false

-- the nodes that are read become marked, and no others
pub record Marks (read : ℕ → Type 0) (old new : List Bool) : Type 0 where
  pub size : length new ≡ length old
  pub keeps : (x : ℕ) → is_live old x ≡ true → is_live new x ≡ true
  pub marks : (x : ℕ) → read x → is_live new x ≡ true
  pub only : (x : ℕ) → is_live new x ≡ true → (is_live old x ≡ true) ⊎ read x

-- one of the first i outputs is node x
abbrev pub IsAnOutput : List ℕ → ℕ → ℕ → Type 0
IsAnOutput outputs i x = (j : ℕ) × (j < i) × (x ≡ slice_index_or outputs j 0)

-- one of the first i checks reads node x
abbrev pub IsOfACheck : List Check → ℕ → ℕ → Type 0
IsOfACheck checks i x = (j : ℕ) × (j < i) × ReadsCheck (check_at checks j) x

-- Everything that a marked node from p on reads is marked; every marked node is reached.
pub record IsClosedFrom (flat : Flat) (p : ℕ) (old new : List Bool) : Type 0 where
  pub size : length new ≡ length old
  pub keeps : (x : ℕ) → is_live old x ≡ true → is_live new x ≡ true
  pub closed : (q x : ℕ) → p ≤ q → q < length flat.nodes → is_live new q ≡ true → Reads (node_at flat.nodes q) x → is_live new x ≡ true
  pub reached : (x : ℕ) → is_live new x ≡ true → IsReached flat x

-- exactly the reached nodes are marked
pub record IsLive (flat : Flat) (live : ℕ → Bool) : Type 0 where
  pub roots : (x : ℕ) → IsRoot flat x → live x ≡ true
  pub closed : (q x : ℕ) → q < length flat.nodes → live q ≡ true → Reads (node_at flat.nodes q) x → live x ≡ true
  pub reached : (x : ℕ) → live x ≡ true → IsReached flat x

-- how many numbers below p are kept
abbrev pub rank : (ℕ → Bool) → ℕ → ℕ
rank kept zero = 0
rank kept (suc p) = if kept p then suc (rank kept p) else rank kept p

-- the kept nodes among the first i, each numbered by the number of kept nodes before it
pub record Kept (nodes : List Node) (kept : ℕ → Bool) (i : ℕ) (new : List Node) (numbers : List ℕ) : Type 0 where
  pub size : length numbers ≡ i
  pub count : length new ≡ rank kept i
  pub number : (q : ℕ) → q < i → look numbers q ≡ rank kept q
  pub node : (q : ℕ) → q < i → kept q ≡ true → node_at new (rank kept q) ≡ renamed (rank kept) (node_at nodes q)
  pub from : (k : ℕ) → k < length new → (q : ℕ) × (q < i) × (kept q ≡ true) × (rank kept q ≡ k)
