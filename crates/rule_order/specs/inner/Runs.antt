-- The cells that a term reads, as runs of neighbouring cells: a table that is read at an index that
-- isn't a literal is one run.
use Rattle.std.specs.Prelude.{ℕ, ◌+◌, ◌<◌, ◌≤◌, List, [], ◌∷◌, ◌++◌}
use Rattle.micro_m.specs.Trees.{Tree, lit, cell, pick, apply, chain, Trees, none, more, Steps, end, step}
use Rattle.micro_m.specs.declared.table.Picked.{Picked}
use Rattle.micro_m.specs.declared.table.Picked.TheVariants.{Cell, Fixed}
use Rattle.micro_m.specs.Values.{picked}
use Rattle.rule_order.specs.declared.reads.Run.{Run}

-- a run of count cells from a first one on
abbrev pub run : ℕ → ℕ → Run
run first count = record { first = first; count = count }

-- the run has the cell
abbrev pub IsInRun : Run → ℕ → Type 0
IsInRun r c = (r.first ≤ c) × (c < r.first + r.count)

abbrev pub runs_of : Picked → List Run
runs_of (Cell c) = run c 1 ∷ []
runs_of (Fixed value) = []

-- the run of its table that a table read reads
abbrev pub picked_runs : ℕ → ℕ → Tree → List Run
picked_runs first size (lit index) = runs_of (picked first size index)
picked_runs first size _ = run first size ∷ []

abbrev mutual
  -- all runs of a term, in the order of the term
  pub runs_in : Tree → List Run
  runs_in (lit value) = []
  runs_in (cell c) = run c 1 ∷ []
  runs_in (pick first size index) = runs_in index ++ picked_runs first size index
  runs_in (apply op arguments) = runs_among arguments
  runs_in (chain first steps) = runs_in first ++ runs_along steps

  pub runs_among : Trees → List Run
  runs_among none = []
  runs_among (more argument rest) = runs_in argument ++ runs_among rest

  pub runs_along : Steps → List Run
  runs_along end = []
  runs_along (step op operand rest) = runs_in operand ++ runs_along rest
