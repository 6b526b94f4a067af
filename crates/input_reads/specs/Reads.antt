-- On which inputs the value of a node may depend, given the facts of all nodes.
use Rattle.std.specs.Prelude.{ℕ, ◌==◌, Bool, false, ◌&&◌, ◌||◌, nat_lt, List, [], ◌∷◌, ◌++◌, length, filter, fold, slice_index_or, is_none}
use Rattle.std.specs.List.{range_with_len}
use Rattle.m_fixed.specs.declared.operator.Op.{Op}
use Rattle.m_fixed.specs.declared.operator.Op.TheVariants.{Choose}
use Rattle.m_fixed.specs.Operators.{arity_of}
use Rattle.definedness.specs.Facts.{Possible, one_value, fact_of_input}
use Rattle.definedness.specs.Ranges.{may_be_zero, may_be_other}
use Rattle.flat_code.specs.declared.program.Node.{Node}
use Rattle.flat_code.specs.declared.program.Node.TheVariants.{Input, Lit, Do}

-- the fact of the node with this number, given the facts of all nodes
abbrev pub fact_at : List Possible → ℕ → Possible
fact_at known p = slice_index_or known p fact_of_input

-- more than one value is possible
abbrev pub is_open : Possible → Bool
is_open fact = is_none (one_value fact)

-- Whether an operator uses its second and its third argument, given the fact of the first. A choice
-- uses its first branch if its condition may be a number other than 0, and its second branch if it
-- may be 0. Every other operator uses all its arguments, at most two.
abbrev pub looks_at_second : Op → Possible → Bool
looks_at_second Choose condition = may_be_other condition.range
looks_at_second op first = nat_lt 1 (arity_of op)

abbrev pub looks_at_third : Op → Possible → Bool
looks_at_third Choose condition = may_be_zero condition.range
looks_at_third op first = false

-- whether a node is the input, or uses a node that passes the test
abbrev pub looks_at : List Possible → ℕ → (ℕ → Bool) → Node → Bool
looks_at known n test (Input m) = n == m
looks_at known n test (Lit v) = false
looks_at known n test (Do op a b c) =
    test a || (looks_at_second op (fact_at known a) && test b) || (looks_at_third op (fact_at known a) && test c)

-- whether the next node may depend on an input, given whether each earlier node may
abbrev pub next_depends : List Possible → ℕ → List Bool → Node → Bool
next_depends known n before node = is_open (fact_at known (length before)) && looks_at known n (λ x. slice_index_or before x false) node

-- for each node, in order, whether it may depend on an input
abbrev pub dependent : List Possible → ℕ → List Node → List Bool
dependent known n nodes = fold (λ before node. before ++ next_depends known n before node ∷ []) [] nodes

-- Whether the value of a node may depend on an input: more than one value is possible of the node,
-- and it is the input or uses a node that may depend on it.
abbrev pub may_depend : List Possible → List Node → ℕ → ℕ → Bool
may_depend known nodes p n = slice_index_or (dependent known n nodes) p false

-- The inputs on which the value of a node may depend, in ascending order.
abbrev pub depends_on : List Possible → List Node → ℕ → ℕ → List ℕ
depends_on known nodes inputs p = filter (may_depend known nodes p) (range_with_len 0 inputs)
