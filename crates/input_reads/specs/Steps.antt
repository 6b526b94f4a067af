-- Dependence as a path from node to node, and facts that hold of values.
use Rattle.std.specs.Prelude.{◌≡◌, ℕ, ◌<◌, true, ◌⊎◌, List, length}
use Rattle.m_fixed.specs.declared.amount.Value.{Value}
use Rattle.definedness.specs.Facts.{Possible, Holds}
use Rattle.flat_code.specs.declared.program.Node.{Node}
use Rattle.flat_code.specs.declared.program.Node.TheVariants.{Input, Lit, Do}
use Rattle.flat_code.specs.Runs.{value_at}
use Rattle.flat_code.specs.Entries.{node_at}
use Rattle.input_reads.specs.Reads.{fact_at, is_open, looks_at_second, looks_at_third}

-- a node uses another
abbrev pub LooksAt : List Possible → Node → ℕ → Type 0
LooksAt known (Input m) x = ⊥
LooksAt known (Lit v) x = ⊥
LooksAt known (Do op a b c) x =
    (x ≡ a) ⊎ (((looks_at_second op (fact_at known a) ≡ true) × (x ≡ b)) ⊎ ((looks_at_third op (fact_at known a) ≡ true) × (x ≡ c)))

-- more than one value is possible of node p, and it is the input
abbrev pub Gives : List Possible → List Node → ℕ → ℕ → Type 0
Gives known nodes p n = (is_open (fact_at known p) ≡ true) × (node_at nodes p ≡ Input n)

-- more than one value is possible of the node with this number, and it uses the other
abbrev pub Takes : List Possible → List Node → ℕ → ℕ → Type 0
Takes known nodes p x = (is_open (fact_at known p) ≡ true) × LooksAt known (node_at nodes p) x

-- a path of dependence: the node is the input, or uses a node that depends on it
pub data Depends (known : List Possible) (nodes : List Node) (n : ℕ) : ℕ → Type 0 where
  input : {p : ℕ} → Gives known nodes p n → Depends known nodes n p
  argument : {p x : ℕ} → Takes known nodes p x → Depends known nodes n x → Depends known nodes n p

-- each node's value is possible by its fact
abbrev pub AreHeld : List Possible → List Value → Type 0
AreHeld known values = (q : ℕ) → q < length values → Holds (fact_at known q) (value_at values q)
