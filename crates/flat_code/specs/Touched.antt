-- Which nodes a change of inputs touches: the nodes that an incremental evaluation recomputes. The
-- definitions mention neither marks, nor an order of evaluation, nor stored values.
use Rattle.std.specs.Prelude.{ℕ, Bool, true, false, not, ◌||◌, ◌&&◌, nat_lt, List, count_by, slice_index_or}
use Rattle.std.specs.Ordering.{int_eq}
use Rattle.m_fixed.specs.declared.amount.Value.{Value}
use Rattle.m_fixed.specs.declared.amount.Value.TheVariants.{Undef, Num, Over}
use Rattle.m_fixed.specs.Operators.{arity_of}
use Rattle.flat_code.specs.declared.program.Node.{Node}
use Rattle.flat_code.specs.declared.program.Node.TheVariants.{Input, Lit, Do}
use Rattle.flat_code.specs.Runs.{node_values, value_at}

-- whether two values differ
abbrev pub differs : Value → Value → Bool
differs Undef Undef = false
differs Undef (Num y) = true
differs Undef Over = true
differs (Num x) Undef = true
differs (Num x) (Num y) = not (int_eq x y)
differs (Num x) Over = true
differs Over Undef = true
differs Over (Num y) = true
differs Over Over = false

-- whether an argument within the operator's arity passes a test
abbrev pub some_argument : (ℕ → Bool) → Node → Bool
some_argument test (Input n) = false
some_argument test (Lit v) = false
some_argument test (Do op a b c) = test a || (nat_lt 1 (arity_of op) && test b) || (nat_lt 2 (arity_of op) && test c)

-- whether a node is an input that was set
abbrev pub of_put : List Bool → Node → Bool
of_put put (Input n) = slice_index_or put n false
of_put put (Lit v) = false
of_put put (Do op a b c) = false

-- Whether a node is touched between two lists of values of all nodes: it is an input that was set,
-- or an argument within its operator's arity differs between the lists.
abbrev pub is_touched : List Bool → List Value → List Value → Node → Bool
is_touched put old new node = of_put put node || some_argument (λ k. differs (value_at old k) (value_at new k)) node

-- The number of nodes that are touched between the values for two lists of inputs.
abbrev pub touched : List Node → List Bool → List Value → List Value → ℕ
touched nodes put before now = count_by (is_touched put (node_values before nodes) (node_values now nodes)) nodes
