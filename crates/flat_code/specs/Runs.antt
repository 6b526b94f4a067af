-- The semantics of flat programs.
use Rattle.std.specs.Prelude.{ℕ, ◌+◌, ◌<◌, Bool, false, ◌||◌, pos, List, [], ◌∷◌, ◌++◌, length, map, fold, slice_index_or, Option, None, Some, if◌then◌else◌}
use Rattle.std.specs.List.{AllByRecursion}
use Rattle.std.specs.Ordering.{int_eq}
use Rattle.std.specs.Option.{option_or, option_map_or}
use Rattle.m_fixed.specs.declared.amount.Value.{Value}
use Rattle.m_fixed.specs.declared.amount.Value.TheVariants.{Undef, Num, Over as OverValue}
use Rattle.m_fixed.specs.declared.operator.Op.{Op}
use Rattle.m_fixed.specs.Operators.{is_zero, op_value}
use Rattle.observables.specs.declared.answer.Answer.{Answer}
use Rattle.observables.specs.declared.answer.Answer.TheVariants.{Values, Stopped}
use Rattle.observables.specs.declared.answer.Stop.{Stop}
use Rattle.observables.specs.declared.answer.Stop.TheVariants.{Failed, Over}
use Rattle.flat_code.specs.declared.program.Node.{Node}
use Rattle.flat_code.specs.declared.program.Node.TheVariants.{Input, Lit, Do}
use Rattle.flat_code.specs.declared.program.Check.{Check}
use Rattle.flat_code.specs.declared.program.Flat.{Flat}

-- ---- nodes

-- A reading is an interpretation of nodes: it computes an entry for each node from the entries of
-- the earlier nodes. Values (for given inputs) and facts are both readings, and one fold computes
-- the entries of both.
pub record Reading (X : Type 0) : Type 0 where
  pub input : ℕ → X
  pub literal : Value → X
  pub apply : Op → X → X → X → X
  pub nothing : X

-- the entry with this number
abbrev pub entry : {X : Type 0} → Reading X → List X → ℕ → X
entry reading entries k = slice_index_or entries k reading.nothing

-- the entry of a node, given the entries of the nodes before it
abbrev pub entry_of : {X : Type 0} → Reading X → List X → Node → X
entry_of reading entries (Input n) = reading.input n
entry_of reading entries (Lit v) = reading.literal v
entry_of reading entries (Do op a b c) = reading.apply op (entry reading entries a) (entry reading entries b) (entry reading entries c)

-- the entries of nodes, in order
abbrev pub entries_of : {X : Type 0} → Reading X → List Node → List X
entries_of reading nodes = fold (λ entries node. entries ++ entry_of reading entries node ∷ []) [] nodes

-- the reading of values for these inputs
abbrev pub values_for : List Value → Reading Value
values_for inputs = record { input = λ n. slice_index_or inputs n Undef; literal = λ v. v; apply = op_value; nothing = Undef }

-- The values of nodes, in order. For an input that is 3 units, the literal 1 and their sum, they
-- are 3, 1 and 4 units.
abbrev pub node_values : List Value → List Node → List Value
node_values inputs nodes = entries_of (values_for inputs) nodes

-- the value with this number
abbrev pub value_at : List Value → ℕ → Value
value_at vs k = slice_index_or vs k Undef

-- ---- checks

-- whether a value is the number 1
abbrev pub is_one : Value → Bool
is_one Undef = false
is_one (Num z) = int_eq z (pos 1_000_000)
is_one OverValue = false

-- the stop that a condition with this value causes, if any
abbrev pub stop_of : Bool → ℕ → Value → Option Stop
stop_of over_only label Undef = None
stop_of over_only label (Num z) = if over_only || is_zero z then None else Some (Failed label)
stop_of over_only label OverValue = Some (Over label)

-- the stop that a check causes, if any
abbrev pub check_stop : List Value → Check → Option Stop
check_stop vs check = if is_one (value_at vs check.guard) then stop_of check.over_only check.label (value_at vs check.condition) else None

-- the stop of the first check that causes one
abbrev pub first_stop : List Value → List Check → Option Stop
first_stop vs [] = None
first_stop vs (check ∷ checks) = option_or (check_stop vs check) (first_stop vs checks)

-- ---- the run

-- the answer, given the values of the nodes
abbrev pub answer_by : List Value → Flat → Answer
answer_by vs flat = option_map_or Stopped (first_stop vs flat.checks) (Values (map (value_at vs) flat.outputs))

-- The answer of a flat program for these inputs: the stop of the first check that causes one,
-- otherwise the values of the outputs.
abbrev pub flat_run : Flat → List Value → Answer
flat_run flat inputs = answer_by (node_values inputs flat.nodes) flat

-- ---- a valid program

-- A valid node at a place of a program with the given number of inputs: its input exists, or its
-- arguments are earlier nodes.
abbrev pub IsNode : ℕ → ℕ → Node → Type 0
IsNode inputs k (Input n) = n < inputs
IsNode inputs k (Lit v) = Unit {0}
IsNode inputs k (Do op a b c) = (a < k) × (b < k) × (c < k)

-- valid nodes from a place on, in a program with the given number of inputs
abbrev pub AreNodes : ℕ → ℕ → List Node → Type 0
AreNodes inputs k [] = Unit {0}
AreNodes inputs k (node ∷ nodes) = IsNode inputs k node × AreNodes inputs (k + 1) nodes

-- a check whose guard and condition are below the number of nodes
abbrev pub IsCheck : ℕ → Check → Type 0
IsCheck count check = (check.guard < count) × (check.condition < count)

-- A valid program: inputs, arguments, guards, conditions and outputs are in range, and arguments
-- are earlier nodes.
pub record IsFlat (flat : Flat) : Type 0 where
  pub nodes : AreNodes flat.inputs 0 flat.nodes
  pub checks : AllByRecursion (IsCheck (length flat.nodes)) flat.checks
  pub outputs : AllByRecursion (λ output. output < length flat.nodes) flat.outputs
