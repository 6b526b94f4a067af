-- Which cells are marked, and whether all that a term reads are. The checked lines have exactly the
-- marked cells.
use Rattle.std.specs.Prelude.{◌≡◌, ℕ, zero, suc, ◌+◌, ◌<◌, ◌≤◌, Bool, true, false, ◌&&◌, List, slice_index_or}
use Rattle.micro_m.specs.Trees.{Tree, lit, cell, pick, apply, chain, Trees, none, more, Steps, end, step}
use Rattle.micro_m.specs.declared.table.Picked.{Picked}
use Rattle.micro_m.specs.declared.table.Picked.TheVariants.{Cell, Fixed}
use Rattle.micro_m.specs.Values.{picked}

-- whether a cell is marked
abbrev pub is_set : List Bool → ℕ → Bool
is_set marks c = slice_index_or marks c false

-- each of `size` cells from `first` on is marked
abbrev pub AllStand : List Bool → ℕ → ℕ → Type 0
AllStand marks first size = (c : ℕ) → first ≤ c → c < first + size → is_set marks c ≡ true

-- from each cell on, `known` cells are marked
abbrev pub KnowsStanding : List Bool → List ℕ → Type 0
KnowsStanding marks known = (first : ℕ) → AllStand marks first (slice_index_or known first 0)

-- whether each of `size` cells from `first` on is marked
abbrev pub run_is_marked : List Bool → ℕ → ℕ → Bool
run_is_marked marks first zero = true
run_is_marked marks first (suc size) = is_set marks first && run_is_marked marks (suc first) size

abbrev pub picked_is_marked : List Bool → Picked → Bool
picked_is_marked marks (Cell c) = is_set marks c
picked_is_marked marks (Fixed value) = true

-- whether all that a table read reads is marked: at a literal index the selected cell, if there is
-- one
abbrev pub table_is_marked : List Bool → ℕ → ℕ → Tree → Bool
table_is_marked marks first size (lit index) = picked_is_marked marks (picked first size index)
table_is_marked marks first size _ = run_is_marked marks first size

abbrev mutual
  -- whether all cells that a term reads are marked
  pub term_is_marked : List Bool → Tree → Bool
  term_is_marked marks (lit value) = true
  term_is_marked marks (cell c) = is_set marks c
  term_is_marked marks (pick first size index) = term_is_marked marks index && table_is_marked marks first size index
  term_is_marked marks (apply op arguments) = arguments_stand marks arguments
  term_is_marked marks (chain first steps) = term_is_marked marks first && steps_stand marks steps

  pub arguments_stand : List Bool → Trees → Bool
  arguments_stand marks none = true
  arguments_stand marks (more argument rest) = term_is_marked marks argument && arguments_stand marks rest

  pub steps_stand : List Bool → Steps → Bool
  steps_stand marks end = true
  steps_stand marks (step op operand rest) = term_is_marked marks operand && steps_stand marks rest
