-- The values of cells: a map from cells to values, given an environment in which each cell has a
-- value. No order of definitions or of evaluation occurs here. An environment maps every number, so
-- nothing is required of the cells of a term.
use Rattle.std.specs.Prelude.{◌≡◌, ℕ, zero, suc, ◌+◌, List, [], ◌∷◌, length, if◌then◌else◌, slice_index_or, nat_lt, ℤ, pos, negsuc}
use Rattle.std.specs.Option.{option_map_or}
use Rattle.m_fixed.specs.declared.amount.Value.{Value}
use Rattle.m_fixed.specs.declared.amount.Value.TheVariants.{Undef, Num, Over}
use Rattle.m_fixed.specs.declared.operator.Op.{Op}
use Rattle.m_fixed.specs.Operators.{op_value, cut}
use Rattle.micro_m.specs.Trees.{Tree, lit, cell, pick, apply, chain, Trees, none, more, Steps, end, step}
use Rattle.micro_m.specs.declared.table.Picked.{Picked}
use Rattle.micro_m.specs.declared.table.Picked.TheVariants.{Cell, Fixed}
use Rattle.micro_m.specs.declared.base.Base.{Base}
use Rattle.micro_m.specs.Bases.{definition_of}

-- the values of cells by their numbers
abbrev pub Environment : Type 0
Environment = ℕ → Value

-- the environment of a list of values: a cell beyond them is undefined
abbrev pub environment : List Value → Environment
environment values c = slice_index_or values c Undef

-- ---- the value of a term

-- The cell or the value of a table at an index in whole units: of the four cells from 5 on, 2
-- selects cell 7; -1 gives 0, and 4 gives undefined.
abbrev pub picked_at : ℕ → ℕ → ℤ → Picked
picked_at first size (pos k) = if nat_lt k size then Cell (first + k) else Fixed Undef
picked_at first size (negsuc k) = Fixed (Num (pos 0))

-- the same at any index, which is truncated toward zero to whole units; an index that is undefined
-- or over is the result
abbrev pub picked : ℕ → ℕ → Value → Picked
picked first size Undef = Fixed Undef
picked first size Over = Fixed Over
picked first size (Num index) = picked_at first size (cut index)

abbrev pub picked_value : Environment → Picked → Value
picked_value values (Cell c) = values c
picked_value values (Fixed value) = value

-- an operator on its arguments; missing ones are undefined
abbrev pub applied : Op → List Value → Value
applied op arguments = op_value op (slice_index_or arguments 0 Undef) (slice_index_or arguments 1 Undef) (slice_index_or arguments 2 Undef)

abbrev mutual
  -- A term's value, given the values of the cells: if the cells 0 and 1 are 10 and 4, cell 0 minus
  -- cell 1 is 6.
  pub term_value : Environment → Tree → Value
  term_value values (lit value) = value
  term_value values (cell c) = values c
  term_value values (pick first size index) = picked_value values (picked first size (term_value values index))
  term_value values (apply op arguments) = applied op (argument_values values arguments)
  term_value values (chain first steps) = folded values (term_value values first) steps

  pub argument_values : Environment → Trees → List Value
  argument_values values none = []
  argument_values values (more argument rest) = term_value values argument ∷ argument_values values rest

  -- a left fold from a start value: `a - b + c` is `(a - b) + c`
  pub folded : Environment → Value → Steps → Value
  folded values so_far end = so_far
  folded values so_far (step op operand rest) = folded values (op_value op so_far (term_value values operand) Undef) rest

-- ---- the value of a cell

-- The value of a cell by recursion at most `turns` deep: undefined for 0 turns; the environment's
-- value for a cell without a definition; otherwise the value of its term, whose cells are evaluated
-- with one turn less.
abbrev pub value_in : Base → Environment → ℕ → Environment
value_in base given zero c = Undef
value_in base given (suc turns) c = option_map_or (term_value (value_in base given turns)) (definition_of base c) (given c)

-- the value of a cell: that with one turn more than there are definitions
abbrev pub value_of : Base → Environment → Environment
value_of base given c = value_in base given (length base.definitions + 1) c

-- ---- definitions as equations

-- Values solve a base in a given environment: a cell with a definition has its term's value under
-- these same values, and every other cell has the given value. The statement mentions neither turns
-- nor an order.
abbrev pub IsSolution : Base → Environment → Environment → Type 0
IsSolution base given values = (c : ℕ) → values c ≡ option_map_or (term_value values) (definition_of base c) (given c)
