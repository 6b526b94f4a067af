-- The edges between nodes: which nodes read which.
use Rattle.std.specs.Prelude.{◌≡◌, ℕ, ◌<◌, ◌==◌, ◌||◌, nat_lt, Bool, false, List, [], ◌∷◌, length, slice_index_or, if◌then◌else◌}
use Rattle.m_fixed.specs.declared.amount.Value.TheVariants.{Undef}
use Rattle.flat_code.specs.declared.program.Node.{Node}
use Rattle.flat_code.specs.declared.program.Node.TheVariants.{Input, Lit, Do}
use Rattle.m_fixed.specs.Operators.{arity_of}
use Rattle.flat_code.specs.Touched.{some_argument}

-- the node at a place; past the end a literal, which is never touched
abbrev pub node_at : List Node → ℕ → Node
node_at nodes k = slice_index_or nodes k (Lit Undef)

-- whether a list contains a number
abbrev pub has : List ℕ → ℕ → Bool
has [] k = false
has (x ∷ xs) k = (x == k) || has xs k

-- whether a node is the input with this number
abbrev pub is_of : ℕ → Node → Bool
is_of p (Input n) = n == p
is_of p (Lit v) = false
is_of p (Do op a b c) = false

-- row p has the nodes that read node p
pub record IsReaders (rows : List (List ℕ)) (nodes : List Node) : Type 0 where
  pub so_many : length rows ≡ length nodes
  pub row : (p k : ℕ) → p < length nodes → has (slice_index_or rows p []) k ≡ some_argument (λ i. i == p) (node_at nodes k)

-- row p has the nodes of input p
pub record IsInputRows (rows : List (List ℕ)) (nodes : List Node) (inputs : ℕ) : Type 0 where
  pub so_many : length rows ≡ inputs
  pub row : (p k : ℕ) → p < inputs → has (slice_index_or rows p []) k ≡ is_of p (node_at nodes k)

-- ---- the sources of edges

-- the sources of a node's three edges: its arguments, and `none` for each that it lacks
abbrev pub argument_sources : ℕ → Node → List ℕ
argument_sources none (Input n) = none ∷ none ∷ none ∷ []
argument_sources none (Lit v) = none ∷ none ∷ none ∷ []
argument_sources none (Do op a b c) = a ∷ (if nat_lt 1 (arity_of op) then b else none) ∷ (if nat_lt 2 (arity_of op) then c else none) ∷ []

-- the source of a node's one edge from an input
abbrev pub input_source : ℕ → Node → ℕ
input_source none (Input n) = n
input_source none (Lit v) = none
input_source none (Do op a b c) = none
