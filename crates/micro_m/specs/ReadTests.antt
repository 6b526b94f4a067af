-- `TermReads` as a test.
use Rattle.std.specs.Prelude.{ℕ, ◌+◌, ◌==◌, ◌&&◌, ◌||◌, nat_le, nat_lt, Bool, false}
use Rattle.micro_m.specs.Trees.{Tree, lit, cell, pick, apply, chain, Trees, none, more, Steps, end, step}
use Rattle.micro_m.specs.declared.table.Picked.{Picked}
use Rattle.micro_m.specs.declared.table.Picked.TheVariants.{Cell, Fixed}
use Rattle.micro_m.specs.Values.{picked}

-- whether indexing a table gave this cell
abbrev pub is_cell : Picked → ℕ → Bool
is_cell (Cell d) c = c == d
is_cell (Fixed value) c = false

-- whether the cell is one of count cells from a first one on
abbrev pub is_in_run : ℕ → ℕ → ℕ → Bool
is_in_run first count c = nat_le first c && nat_lt c (first + count)

-- whether a table read reads this cell of the table: at a literal only the selected cell, at any
-- other index all cells
abbrev pub pick_reads : ℕ → ℕ → Tree → ℕ → Bool
pick_reads first size (lit index) c = is_cell (picked first size index) c
pick_reads first size _ c = is_in_run first size c

abbrev mutual
  -- whether a term reads the cell, in any branch
  pub term_reads : Tree → ℕ → Bool
  term_reads (lit value) c = false
  term_reads (cell d) c = c == d
  term_reads (pick first size index) c = term_reads index c || pick_reads first size index c
  term_reads (apply op arguments) c = arguments_read arguments c
  term_reads (chain first steps) c = term_reads first c || steps_read steps c

  pub arguments_read : Trees → ℕ → Bool
  arguments_read none c = false
  arguments_read (more argument rest) c = term_reads argument c || arguments_read rest c

  pub steps_read : Steps → ℕ → Bool
  steps_read end c = false
  steps_read (step op operand rest) c = term_reads operand c || steps_read rest c
