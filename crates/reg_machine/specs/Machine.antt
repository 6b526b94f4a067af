-- The semantics of register code.
use Rattle.std.specs.Prelude.{ℕ, List, replicate, fold, slice_set, slice_index_or, Option, Some, None, if◌then◌else◌}
use Rattle.m_fixed.specs.declared.amount.Value.{Value}
use Rattle.m_fixed.specs.declared.amount.Value.TheVariants.{Undef}
use Rattle.m_fixed.specs.Operators.{op_value}
use Rattle.observables.specs.declared.answer.Stop.{Stop}
use Rattle.observables.specs.declared.answer.Answer.{Answer}
use Rattle.observables.specs.declared.answer.Answer.TheVariants.{Values, Stopped}
use Rattle.flat_code.specs.Runs.{is_one, stop_of}
use Rattle.reg_machine.specs.declared.instr.Instr.{Instr}
use Rattle.reg_machine.specs.declared.instr.Instr.TheVariants.{Take, Lit, Do, Store, Load, Check, Output}
use Rattle.reg_machine.specs.Flow.{Listing, put}

-- the values of registers, slots and outputs, and the stop that ended the run, if any
pub record Machine : Type 0 where
  pub registers : ℕ → Value
  pub slots : ℕ → Value
  pub outputs : List Value
  pub ended : Option Stop

-- the machine before the first instruction, with n outputs
abbrev pub fresh : ℕ → Machine
fresh n = record { registers = λ _. Undef; slots = λ _. Undef; outputs = replicate n Undef; ended = None }

-- the effect of an instruction in a run that hasn't ended
abbrev pub act : List Value → Instr → Machine → Machine
act inputs (Take r n) m = record m { registers = put m.registers r (slice_index_or inputs n Undef) }
act inputs (Lit r v) m = record m { registers = put m.registers r v }
act inputs (Do op r a b c) m = record m { registers = put m.registers r (op_value op (m.registers a) (m.registers b) (m.registers c)) }
act inputs (Store k r) m = record m { slots = put m.slots k (m.registers r) }
act inputs (Load r k) m = record m { registers = put m.registers r (m.slots k) }
act inputs (Check g r over_only label) m = record m { ended = if is_one (m.registers g) then stop_of over_only label (m.registers r) else None }
act inputs (Output k r) m = record m { outputs = slice_set m.outputs k (m.registers r) }

-- the effect of an instruction, none once the run has ended
abbrev pub act_at : List Value → Option Stop → Instr → Machine → Machine
act_at inputs (Some stop) instr m = m
act_at inputs None instr m = act inputs instr m

-- the effect of instructions in order
abbrev pub acts : List Value → Machine → List Instr → Machine
acts inputs m instrs = fold (λ m instr. act_at inputs m.ended instr m) m instrs

-- the answer of a finished run: the stop, otherwise the outputs
abbrev pub answer_of : Option Stop → List Value → Answer
answer_of (Some stop) outputs = Stopped stop
answer_of None outputs = Values outputs

-- the answer of instructions, for this number of outputs
abbrev pub answer_behind : List Value → ℕ → List Instr → Answer
answer_behind inputs outputs instrs = answer_of (acts inputs (fresh outputs) instrs).ended (acts inputs (fresh outputs) instrs).outputs

-- The answer of code for these inputs: the stop of the first check that causes one, otherwise the
-- outputs.
abbrev pub machine_run : Listing → List Value → Answer
machine_run code inputs = answer_behind inputs code.counts.outputs code.instrs

-- a machine for code, as contracts see it: the code, and the outputs of the last run
pub record Board : Type 0 where
  pub code : Listing
  pub outputs : List Value
