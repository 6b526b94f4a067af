-- Renumbered nodes and checks.
use Rattle.std.specs.Prelude.{◌≡◌, ℕ, ◌<◌, Bool, true, List, length}
use Rattle.flat_code.specs.declared.program.Node.{Node}
use Rattle.flat_code.specs.declared.program.Node.TheVariants.{Input, Lit, Do}
use Rattle.flat_code.specs.declared.program.Check.{Check}
use Rattle.flat_code.specs.Runs.{Reading, IsNode}
use Rattle.flat_code.specs.Entries.{node_at}
use Rattle.flat_code.specs.Tidy.{Reads}

-- the entry of a node, given the entries of its arguments as a function
abbrev pub entry_by : {X : Type 0} → Reading X → (ℕ → X) → Node → X
entry_by reading before (Input n) = reading.input n
entry_by reading before (Lit v) = reading.literal v
entry_by reading before (Do op a b c) = reading.apply op (before a) (before b) (before c)

-- each node is valid at its place
abbrev pub AreValid : ℕ → List Node → Type 0
AreValid inputs nodes = (p : ℕ) → p < length nodes → IsNode inputs p (node_at nodes p)

-- a node with renumbered arguments
abbrev pub renamed : (ℕ → ℕ) → Node → Node
renamed m (Input n) = Input n
renamed m (Lit v) = Lit v
renamed m (Do op a b c) = Do op (m a) (m b) (m c)

-- a check with renumbered guard and condition
abbrev pub moved : (ℕ → ℕ) → Check → Check
moved m check = record check { guard = m check.guard; condition = m check.condition }

-- The new nodes are the kept ones of the old, in the same order; m maps old numbers to new ones.
pub record IsPart (old new : List Node) (kept : ℕ → Bool) (m : ℕ → ℕ) : Type 0 where
  pub within : (p : ℕ) → p < length old → kept p ≡ true → m p < length new
  pub node : (p : ℕ) → p < length old → kept p ≡ true → node_at new (m p) ≡ renamed m (node_at old p)
  pub order : (p q : ℕ) → q < length old → kept p ≡ true → kept q ≡ true → p < q → m p < m q
  pub from : (k : ℕ) → k < length new → (p : ℕ) × (p < length old) × (kept p ≡ true) × (m p ≡ k)
  pub closed : (p x : ℕ) → p < length old → kept p ≡ true → Reads (node_at old p) x → kept x ≡ true
