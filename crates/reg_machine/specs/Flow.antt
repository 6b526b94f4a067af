-- Register code: its errors, and the flat program that it denotes. One symbolic run over the code
-- (`reading`) defines both.
use Rattle.std.specs.Prelude.{ℕ, suc, ◌==◌, nat_lt, nat_le, ◌&&◌, ◌||◌, Bool, is_none, slice_index_or, List, [], ◌∷◌, ◌++◌, length, replicate, fold, slice_set}
use Rattle.std.specs.Prelude.{Option, Some, None, if◌then◌else◌}
use Rattle.std.specs.Option.{option_and_then, option_map, option_map_or}
use Rattle.m_fixed.specs.declared.operator.Op.{Op}
use Rattle.m_fixed.specs.Operators.{arity_of}
use Rattle.flat_code.specs.declared.program.Node.{Node}
use Rattle.flat_code.specs.declared.program.Node.TheVariants.{Input, Lit as LitNode, Do as DoNode}
use Rattle.flat_code.specs.declared.program.Check.{Check}
use Rattle.flat_code.specs.declared.program.Flat.{Flat}
use Rattle.reg_machine.specs.declared.instr.Instr.{Instr}
use Rattle.reg_machine.specs.declared.instr.Instr.TheVariants.{Take, Lit, Do, Store, Load, Check as Test, Output}
use Rattle.reg_machine.specs.declared.instr.TheConstants.{REGISTERS}
use Rattle.reg_machine.specs.declared.wrong.Wrong.{Wrong}
use Rattle.reg_machine.specs.declared.wrong.Wrong.TheVariants.{Number, Order}
use Rattle.reg_machine.specs.declared.wrong.CodeWrong.{CodeWrong}
use Rattle.reg_machine.specs.declared.wrong.CodeWrong.TheVariants.{BadNumber, BadOrder, NoOutput}

-- ---- code

-- the numbers of inputs, slots, labels and outputs
pub record Counts : Type 0 where
  pub inputs : ℕ
  pub slots : ℕ
  pub labels : ℕ
  pub outputs : ℕ

-- code: its counts and its instructions in order
pub record Listing : Type 0 where
  pub counts : Counts
  pub instrs : List Instr

-- code of these instructions, with these counts
abbrev pub code_of : ℕ → ℕ → ℕ → ℕ → List Instr → Listing
code_of inputs slots labels outputs instrs = record { counts = record { inputs = inputs; slots = slots; labels = labels; outputs = outputs }; instrs = instrs }

-- code with one more instruction
abbrev pub with_instr : Listing → Instr → Listing
with_instr code instr = record code { instrs = code.instrs ++ instr ∷ [] }

-- code with another count of slots
abbrev pub with_slots : Listing → ℕ → Listing
with_slots code slots = record {
  counts = record { inputs = code.counts.inputs; slots = slots; labels = code.counts.labels; outputs = code.counts.outputs };
  instrs = code.instrs;
}

-- ---- the symbolic run

-- a table, with the entry at place k replaced
abbrev pub put : {A : Type 0} → (ℕ → A) → ℕ → A → ℕ → A
put table k entry = λ j. if j == k then entry else table j

-- The state of the symbolic run: the node that each register and slot holds, the nodes, checks and
-- outputs so far, and how often each node was stored and loaded. A register or slot that was never
-- written holds none.
pub record State : Type 0 where
  pub registers : ℕ → Option ℕ
  pub slots : ℕ → Option ℕ
  pub nodes : List Node
  pub checks : List Check
  pub outputs : List (Option ℕ)
  pub stored : ℕ → ℕ
  pub loaded : ℕ → ℕ

-- the state before the first instruction, for n outputs
abbrev pub start : ℕ → State
start n = record {
  registers = λ _. None;
  slots = λ _. None;
  nodes = [];
  checks = [];
  outputs = replicate n None;
  stored = λ _. 0;
  loaded = λ _. 0;
}

-- the state after the next node is made in register r
abbrev pub with_node : ℕ → Node → State → State
with_node r node s = record s { registers = put s.registers r (Some (length s.nodes)); nodes = s.nodes ++ node ∷ [] }

-- whether a number is that of a register
abbrev pub is_register : ℕ → Bool
is_register r = nat_lt r REGISTERS

-- whether arguments past the operator's arity equal the first
abbrev pub repeats_first : Op → ℕ → ℕ → ℕ → Bool
repeats_first op a b c = (nat_le 2 (arity_of op) || (b == a)) && (nat_le 3 (arity_of op) || (c == a))

-- Whether all numbers of an instruction are valid: each is below its count, arguments past the
-- arity equal the first, and an output isn't set twice.
abbrev pub has_numbers : Counts → State → Instr → Bool
has_numbers n s (Take r k) = is_register r && nat_lt k n.inputs
has_numbers n s (Lit r v) = is_register r
has_numbers n s (Do op r a b c) = is_register r && (is_register a && (is_register b && (is_register c && repeats_first op a b c)))
has_numbers n s (Store k r) = nat_lt k n.slots && is_register r
has_numbers n s (Load r k) = is_register r && nat_lt k n.slots
has_numbers n s (Test g r over_only label) = is_register g && (is_register r && nat_lt label n.labels)
has_numbers n s (Output k r) = nat_lt k n.outputs && (is_register r && is_none (slice_index_or s.outputs k None))

-- The state after an instruction; none if it reads a register or a slot that holds no node.
abbrev pub moved : Instr → State → Option State
moved (Take r n) s = Some (with_node r (Input n) s)
moved (Lit r v) s = Some (with_node r (LitNode v) s)
moved (Do op r a b c) s =
    option_and_then (λ x. option_and_then (λ y. option_map (λ z. with_node r (DoNode op x y z) s) (s.registers c)) (s.registers b)) (s.registers a)
moved (Store k r) s =
    option_map (λ x. record s { slots = put s.slots k (Some x); stored = put s.stored x (suc (s.stored x)) }) (s.registers r)
moved (Load r k) s =
    option_map (λ x. record s { registers = put s.registers r (Some x); loaded = put s.loaded x (suc (s.loaded x)) }) (s.slots k)
moved (Test g r over_only label) s =
    option_and_then (λ x. option_map (λ y. record s { checks = s.checks ++ record { guard = x; condition = y; over_only = over_only; label = label } ∷ [] })
    (s.registers r)) (s.registers g)
moved (Output k r) s = option_map (λ x. record s { outputs = slice_set s.outputs k (Some x) }) (s.registers r)

-- the state after an instruction; none if it is wrong
abbrev pub step : Counts → Instr → State → Option State
step n instr s = if has_numbers n s instr then moved instr s else None

-- the state after all instructions; none if one is wrong
abbrev pub reading : Listing → Option State
reading code = fold (λ s instr. option_and_then (step code.counts instr) s) (Some (start code.counts.outputs)) code.instrs

-- ---- errors

-- the error of an instruction in this state, if any
abbrev pub wrong_at : Counts → State → Instr → Option Wrong
wrong_at n s instr = if has_numbers n s instr then (if is_none (moved instr s) then Some Order else None) else Some Number

-- the error of an instruction appended to valid code, if any
abbrev pub wrong_behind : Listing → Instr → Option Wrong
wrong_behind code instr = option_and_then (λ s. wrong_at code.counts s instr) (reading code)

-- an error with its place
abbrev pub placed : ℕ → Wrong → CodeWrong
placed k Number = BadNumber k
placed k Order = BadOrder k

-- the nodes of the outputs; none if an output was never set
abbrev pub all_given : List (Option ℕ) → Option (List ℕ)
all_given [] = Some []
all_given (None ∷ outputs) = None
all_given (Some x ∷ outputs) = option_map (λ xs. x ∷ xs) (all_given outputs)

-- the error of the instructions from place k on, in this state
abbrev pub fault_from : Counts → State → ℕ → List Instr → Option CodeWrong
fault_from n s k [] = if is_none (all_given s.outputs) then Some NoOutput else None
fault_from n s k (instr ∷ instrs) =
    if has_numbers n s instr
    then option_map_or (λ t. fault_from n t (suc k) instrs) (moved instr s) (Some (BadOrder k))
    else Some (BadNumber k)

-- The error of code: that of its first wrong instruction, otherwise `NoOutput` if an output is
-- never set. At one instruction `BadNumber` takes precedence over `BadOrder`. The code of the
-- single instruction `Do(Sub, 0, 0, 1, 0)` has the error `BadOrder(0)`.
abbrev pub code_fault : Listing → Option CodeWrong
code_fault code = fault_from code.counts (start code.counts.outputs) 0 code.instrs

-- ---- the program

-- the flat program of a state; none if an output was never set
abbrev pub spelled : ℕ → State → Option Flat
spelled inputs s = option_map (λ outputs. record { inputs = inputs; nodes = s.nodes; checks = s.checks; outputs = outputs }) (all_given s.outputs)

-- The flat program that code denotes; none if the code has an error. Each `Take`, `Lit` and `Do` is
-- the next node, whose arguments are the nodes in its registers. `Store` and `Load` move nodes.
-- Checks keep their order, and outputs have their numbers.
abbrev pub flow_of : Listing → Option Flat
flow_of code = option_and_then (spelled code.counts.inputs) (reading code)

-- how often node x is stored
abbrev pub stores_of : ℕ → Listing → ℕ
stores_of x code = option_map_or (λ s. s.stored x) (reading code) 0

-- how often node x is loaded
abbrev pub loads_of : ℕ → Listing → ℕ
loads_of x code = option_map_or (λ s. s.loaded x) (reading code) 0
