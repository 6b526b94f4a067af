-- Marking the cells that are read: at each cell the length of the longest run that begins at it.
use Rattle.std.specs.Prelude.{ℕ, ◌+◌, max, nat_lt, Bool, true, false, ◌||◌, List, [], ◌∷◌, slice_set, slice_index}
use Rattle.micro_m.specs.Trees.{Tree, lit, cell, pick, apply, chain, Trees, none, more, Steps, end, step}
use Rattle.micro_m.specs.declared.table.Picked.{Picked}
use Rattle.micro_m.specs.declared.table.Picked.TheVariants.{Cell, Fixed}
use Rattle.micro_m.specs.Values.{picked}
use Rattle.micro_m.specs.Bases.{Definition}
use Rattle.flat_code.specs.declared.program.Node.{Node}
use Rattle.flat_code.specs.declared.program.Node.TheVariants.{Input, Lit, Do}
use Rattle.micro_m.specs.ReadTests.{is_in_run}

-- adds a run: the longest run from `first` on has at least `count` cells
abbrev pub raised : List ℕ → ℕ → ℕ → List ℕ
raised reach first count = slice_set reach first (max (slice_index reach first) count)

abbrev pub reach_of_picked : Picked → List ℕ → List ℕ
reach_of_picked (Cell c) reach = raised reach c 1
reach_of_picked (Fixed value) reach = reach

-- adds the run that a table read reads
abbrev pub reach_of_pick : ℕ → ℕ → Tree → List ℕ → List ℕ
reach_of_pick first size (lit index) reach = reach_of_picked (picked first size index) reach
reach_of_pick first size _ reach = raised reach first size

abbrev mutual
  -- adds the runs that a term reads
  pub reach_of : Tree → List ℕ → List ℕ
  reach_of (lit value) reach = reach
  reach_of (cell c) reach = raised reach c 1
  reach_of (pick first size index) reach = reach_of_pick first size index (reach_of index reach)
  reach_of (apply op arguments) reach = reach_of_all arguments reach
  reach_of (chain first steps) reach = reach_along steps (reach_of first reach)

  pub reach_of_all : Trees → List ℕ → List ℕ
  reach_of_all none reach = reach
  reach_of_all (more argument rest) reach = reach_of_all rest (reach_of argument reach)

  pub reach_along : Steps → List ℕ → List ℕ
  reach_along end reach = reach
  reach_along (step op operand rest) reach = reach_along rest (reach_of operand reach)

-- adds the runs that terms read, in order
abbrev pub reach_of_terms : List Tree → List ℕ → List ℕ
reach_of_terms [] reach = reach
reach_of_terms (term ∷ terms) reach = reach_of_terms terms (reach_of term reach)

-- whether a run contains the cell, where the first run begins at the cell with this number
abbrev pub covers : ℕ → List ℕ → ℕ → Bool
covers first [] c = false
covers first (n ∷ ns) c = is_in_run first n c || covers (first + 1) ns c

-- For each cell whether a run contains it, where the first is the cell with this number, and
-- earlier runs contain all cells from it on below `until`.
abbrev pub swept : ℕ → ℕ → List ℕ → List Bool
swept first until [] = []
swept first until (n ∷ ns) = nat_lt first (max until (first + n)) ∷ swept (first + 1) (max until (first + n)) ns

-- marks without those of the cells that have definitions
abbrev pub cleared : List Definition → List Bool → List Bool
cleared [] marks = marks
cleared (d ∷ ds) marks = cleared ds (slice_set marks d.0 false)

-- marks the input that a node reads, if it is one
abbrev pub with_input : Node → List Bool → List Bool
with_input (Input n) marks = slice_set marks n true
with_input (Lit v) marks = marks
with_input (Do op a b c) marks = marks

abbrev pub with_inputs : List Node → List Bool → List Bool
with_inputs [] marks = marks
with_inputs (node ∷ nodes) marks = with_inputs nodes (with_input node marks)
