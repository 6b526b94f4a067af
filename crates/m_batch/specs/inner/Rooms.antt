-- Columns: the values of a register, slot or output in the rows of a block.
use Rattle.std.specs.Prelude.{◌≡◌, ℕ, ◌<◌, ◌≤◌, Bool, List, length, slice_index_or, Vec, Option, Some, None, if◌then◌else◌}
use Rattle.std.specs.declared.alloc.Global.{Global}
use Rattle.m_fixed.specs.declared.amount.Value.{Value}
use Rattle.observables.specs.declared.answer.Stop.{Stop}
use Rattle.flat_code.specs.Runs.{is_one, stop_of}
use Rattle.reg_machine.specs.declared.instr.TheConstants.{REGISTERS}
use Rattle.m_batch.specs.declared.room.TheConstants.{BLOCK}
use Rattle.m_batch.specs.declared.room.Room.{Room}

-- each column has a value for each row of a block
abbrev pub AreWide : List (Vec Value Global) → Type 0
AreWide columns = (k : ℕ) (d : Vec Value Global) → k < length columns → BLOCK ≤ length (slice_index_or columns k d).items

-- a room of these sizes
pub record IsRoom (slot_count output_count : ℕ) (room : Room) : Type 0 where
  pub registers : length room.registers.items ≡ REGISTERS
  pub slots : length room.slots.items ≡ slot_count
  pub outputs : length room.outputs.items ≡ output_count
  pub wide_registers : AreWide room.registers.items
  pub wide_slots : AreWide room.slots.items
  pub wide_outputs : AreWide room.outputs.items
  pub wide_scratch : BLOCK ≤ length room.scratch.items
  pub wide_stops : BLOCK ≤ length room.stops.items

-- a first stop is kept
abbrev pub kept : Option Stop → Option Stop → Option Stop
kept (Some stop) later = Some stop
kept None later = later

-- the stop of a check for these values of its guard and condition
unfoldable pub check_stop : Value → Value → Bool → ℕ → Option Stop
check_stop guard condition over_only label = if is_one guard then stop_of over_only label condition else None
