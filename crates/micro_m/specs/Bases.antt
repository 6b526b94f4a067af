-- The components of a base, and its validity: each number in it is in range, and no cell is defined
-- twice.
use Rattle.std.specs.Prelude.{◌≡◌, ℕ, ◌+◌, ◌<◌, ◌≤◌, ◌==◌, Bool, false, List, [], ◌∷◌, map, length, All, Option, None, Some, if◌then◌else◌, slice_index_or}
use Rattle.std.specs.List.{list_any}
use Rattle.m_fixed.specs.declared.amount.Value.TheVariants.{Undef}
use Rattle.m_places.specs.declared.place.Place.{Place}
use Rattle.micro_m.specs.Trees.{Tree, lit, cell, pick, apply, chain, Trees, none, more, Steps, end, step}
use Rattle.micro_m.specs.declared.base.Base.{Base}

-- ---- numbers in lists

-- whether a number is a member of a list
abbrev pub is_among : ℕ → List ℕ → Bool
is_among n ns = list_any (λ m. n == m) ns

-- no number occurs twice
abbrev pub AreDistinctCells : List ℕ → Type 0
AreDistinctCells [] = Unit {0}
AreDistinctCells (n ∷ ns) = (is_among n ns ≡ false) × AreDistinctCells ns

-- ---- definitions

-- a definition: its cell, its term, and the place of its formula
abbrev pub Definition : Type 0
Definition = ℕ × Tree × Place

-- the defined cells, and their terms, in order
abbrev pub targets_of : Base → List ℕ
targets_of base = map (λ d. d.0) base.definitions

abbrev pub terms_of : Base → List Tree
terms_of base = map (λ d. d.1) base.definitions

-- the cell and the term of the definition at a position: if the definitions are `A = 1` and
-- `B = A`, the term at position 1 is the cell of A
abbrev pub target_at : Base → ℕ → ℕ
target_at base position = slice_index_or (targets_of base) position 0

abbrev pub term_at : Base → ℕ → Tree
term_at base position = slice_index_or (terms_of base) position (lit Undef)

-- the term that defines a cell, if it has a definition
abbrev pub definition_among : List Definition → ℕ → Option Tree
definition_among [] c = None
definition_among (d ∷ ds) c = if c == d.0 then Some d.1 else definition_among ds c

abbrev pub definition_of : Base → ℕ → Option Tree
definition_of base c = definition_among base.definitions c

-- ---- a valid base

abbrev mutual
  -- the cells of a term are below this number
  pub IsWithin : ℕ → Tree → Type 0
  IsWithin cells (lit value) = Unit {0}
  IsWithin cells (cell c) = c < cells
  IsWithin cells (pick first size index) = (first + size ≤ cells) × IsWithin cells index
  IsWithin cells (apply op arguments) = AreWithin cells arguments
  IsWithin cells (chain first steps) = IsWithin cells first × StepsAreWithin cells steps

  pub AreWithin : ℕ → Trees → Type 0
  AreWithin cells none = Unit {0}
  AreWithin cells (more argument rest) = IsWithin cells argument × AreWithin cells rest

  pub StepsAreWithin : ℕ → Steps → Type 0
  StepsAreWithin cells end = Unit {0}
  StepsAreWithin cells (step op operand rest) = IsWithin cells operand × StepsAreWithin cells rest

-- A valid base: cells and labels are in range, each table ends within the cells, no cell has two
-- definitions, and none occurs twice among the constants.
pub record IsValidBase (base : Base) : Type 0 where
  pub constants : All (λ constant. constant.0 < base.cells) base.constants
  pub targets : All (λ c. c < base.cells) (targets_of base)
  pub terms : All (IsWithin base.cells) (terms_of base)
  pub conditions : All (λ check. IsWithin base.cells check.0) base.checks
  pub labels : All (λ check. check.1 < length base.labels) base.checks
  pub defined_once : AreDistinctCells (targets_of base)
  pub constant_once : AreDistinctCells (map (λ constant. constant.0) base.constants)
