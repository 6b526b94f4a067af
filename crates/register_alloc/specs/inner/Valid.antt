-- What the allocator requires of a program.
use Rattle.std.specs.Prelude.{◌≡◌, ℕ, ◌<◌, ◌≤◌, true, All, slice_index_or, length}
use Rattle.flat_code.specs.declared.program.Node.{Node}
use Rattle.flat_code.specs.declared.program.Node.TheVariants.{Input, Lit, Do}
use Rattle.flat_code.specs.declared.program.Check.{Check}
use Rattle.flat_code.specs.declared.program.Flat.{Flat}
use Rattle.flat_code.specs.Tidy.{IsNormal}
use Rattle.register_alloc.specs.declared.moment.TheConstants.{MOST}
use Rattle.register_alloc.specs.Width.{reads, check_reads}

-- an input of a node is below the count
abbrev pub IsInput : ℕ → Node → Type 0
IsInput inputs (Input n) = n < inputs
IsInput inputs (Lit v) = Unit {0}
IsInput inputs (Do op a b c) = Unit {0}

-- Arguments are earlier nodes, those past the arity equal the first, and checks and outputs read
-- nodes that exist.
pub record IsValid (flat : Flat) : Type 0 where
  pub nodes : (p x : ℕ) (node : Node) → p < length flat.nodes → reads x (slice_index_or flat.nodes p node) ≡ true → x < p
  pub inputs : (p : ℕ) (node : Node) → p < length flat.nodes → IsInput flat.inputs (slice_index_or flat.nodes p node)
  pub tidy : (p : ℕ) (node : Node) → p < length flat.nodes → IsNormal (slice_index_or flat.nodes p node)
  pub checks : (j x : ℕ) (check : Check) → j < length flat.checks → check_reads x (slice_index_or flat.checks j check) ≡ true → x < length flat.nodes
  pub outputs : (j : ℕ) → j < length flat.outputs → slice_index_or flat.outputs j 0 < length flat.nodes
  pub few_nodes : length flat.nodes ≤ MOST
  pub few_checks : length flat.checks ≤ MOST
  pub few_outputs : length flat.outputs ≤ MOST
