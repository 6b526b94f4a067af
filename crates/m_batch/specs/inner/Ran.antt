-- Runs that continue after a stop, and the rows of a room as such runs.
use Rattle.std.specs.Prelude.{◌≡◌, ℕ, ◌<◌, List, length, fold, slice_index_or, Option, None, Vec}
use Rattle.std.specs.declared.alloc.Global.{Global}
use Rattle.m_fixed.specs.declared.amount.Value.{Value}
use Rattle.observables.specs.declared.answer.Stop.{Stop}
use Rattle.observables.specs.declared.answer.Answer.{Answer}
use Rattle.reg_machine.specs.declared.code.Packed.{Packed}
use Rattle.reg_machine.specs.declared.code.Packed.TheVariants.{Take, Lit, Do, Store, Load, Check, Output}
use Rattle.reg_machine.specs.Machine.{answer_of}
use Rattle.reg_machine.specs.inner.Cells.{at, registers_behind, slots_behind, outputs_behind}
use Rattle.m_batch.specs.declared.room.Room.{Room}
use Rattle.m_batch.specs.inner.Rows.{row_at, row_inputs, row_of}
use Rattle.m_batch.specs.inner.Rooms.{kept, check_stop}

-- A run that continues after a stop. Its values are irrelevant then; the first stop is kept.
pub record Ran : Type 0 where
  pub registers : List Value
  pub slots : List Value
  pub outputs : List Value
  pub stop : Option Stop

-- the stop of an instruction, if it stops
abbrev pub stop_in : List Value → Packed → Option Stop
stop_in registers (Take r n) = None
stop_in registers (Lit r k) = None
stop_in registers (Do op r a b c) = None
stop_in registers (Store k r) = None
stop_in registers (Load r k) = None
stop_in registers (Check g r over_only label) = check_stop (at registers g) (at registers r) over_only label
stop_in registers (Output k r) = None

-- executes an instruction, whether or not the run has stopped
abbrev pub run_on : List Value → List Value → Ran → Packed → Ran
run_on inputs pool ran packed = record {
  registers = registers_behind inputs pool ran.registers ran.slots packed;
  slots = slots_behind ran.registers ran.slots packed;
  outputs = outputs_behind ran.registers ran.outputs packed;
  stop = kept ran.stop (stop_in ran.registers packed);
}

abbrev pub ran_from : List Value → List Value → Ran → List Packed → Ran
ran_from inputs pool ran packed = fold (run_on inputs pool) ran packed

-- the answer at the end of a run
abbrev pub ran_answer : Ran → Answer
ran_answer ran = answer_of ran.stop ran.outputs

-- the run of row r in a room
abbrev pub ran_of : ℕ → Room → Ran
ran_of r room = record {
  registers = row_of r room.registers.items;
  slots = row_of r room.slots.items;
  outputs = row_of r room.outputs.items;
  stop = slice_index_or room.stops.items r None;
}

-- the rows of a room after an instruction are those before it with the instruction executed
abbrev pub IsStep : List ℕ → List (Vec Value Global) → List Value → Packed → Room → Room → Type 0
IsStep numbers rows pool packed old new = (r : ℕ) → r < length rows → ran_of r new ≡ run_on (row_inputs numbers (row_at rows r)) pool (ran_of r old) packed

-- The invariant: each row of the room is that row's run, stopped or not.
abbrev pub AreRun : List ℕ → List (Vec Value Global) → List Value → List Packed → Room → Room → Type 0
AreRun numbers rows pool packed old new = (r : ℕ) → r < length rows → ran_of r new ≡ ran_from (row_inputs numbers (row_at rows r)) pool (ran_of r old) packed

-- the same for answers alone, which holds also if the instructions weren't all executed
abbrev pub AreAnswered : List ℕ → List (Vec Value Global) → List Value → List Packed → Room → Room → Type 0
AreAnswered numbers rows pool packed old new = (r : ℕ) → r < length rows
    → ran_answer (ran_of r new) ≡ ran_answer (ran_from (row_inputs numbers (row_at rows r)) pool (ran_of r old) packed)
