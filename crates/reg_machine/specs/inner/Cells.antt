-- The effect of a packed instruction on the registers, the used slots and the outputs.
use Rattle.std.specs.Prelude.{◌≡◌, ℕ, ◌<◌, List, slice_index_or, slice_index, slice_set, map, length, drop, Option, None, if◌then◌else◌}
use Rattle.m_fixed.specs.declared.amount.Value.{Value}
use Rattle.m_fixed.specs.declared.amount.Value.TheVariants.{Undef}
use Rattle.m_fixed.specs.Operators.{op_value}
use Rattle.observables.specs.declared.answer.Stop.{Stop}
use Rattle.flat_code.specs.Runs.{is_one, stop_of}
use Rattle.reg_machine.specs.declared.instr.TheConstants.{REGISTERS}
use Rattle.reg_machine.specs.declared.code.Packed.{Packed}
use Rattle.reg_machine.specs.declared.code.Packed.TheVariants.{Take, Lit, Do, Store, Load, Check, Output}
use Rattle.reg_machine.specs.Machine.{Machine, acts}
use Rattle.reg_machine.specs.inner.Packed.{unpacked}

-- the value at a place
abbrev pub at : List Value → ℕ → Value
at values k = slice_index_or values k Undef

-- the registers after an instruction
abbrev pub registers_behind : List Value → List Value → List Value → List Value → Packed → List Value
registers_behind inputs pool registers slots (Take r n) = slice_set registers r (at inputs n)
registers_behind inputs pool registers slots (Lit r k) = slice_set registers r (at pool k)
registers_behind inputs pool registers slots (Do op r a b c) = slice_set registers r (op_value op (at registers a) (at registers b) (at registers c))
registers_behind inputs pool registers slots (Store k r) = registers
registers_behind inputs pool registers slots (Load r k) = slice_set registers r (at slots k)
registers_behind inputs pool registers slots (Check g r over_only label) = registers
registers_behind inputs pool registers slots (Output k r) = registers

-- the slots after an instruction
abbrev pub slots_behind : List Value → List Value → Packed → List Value
slots_behind registers slots (Take r n) = slots
slots_behind registers slots (Lit r k) = slots
slots_behind registers slots (Do op r a b c) = slots
slots_behind registers slots (Store k r) = slice_set slots k (at registers r)
slots_behind registers slots (Load r k) = slots
slots_behind registers slots (Check g r over_only label) = slots
slots_behind registers slots (Output k r) = slots

-- the outputs after an instruction
abbrev pub outputs_behind : List Value → List Value → Packed → List Value
outputs_behind registers outputs (Take r n) = outputs
outputs_behind registers outputs (Lit r k) = outputs
outputs_behind registers outputs (Do op r a b c) = outputs
outputs_behind registers outputs (Store k r) = outputs
outputs_behind registers outputs (Load r k) = outputs
outputs_behind registers outputs (Check g r over_only label) = outputs
outputs_behind registers outputs (Output k r) = slice_set outputs k (at registers r)

-- the stop of an instruction, if any
abbrev pub stop_behind : List Value → Packed → Option Stop
stop_behind registers (Take r n) = None
stop_behind registers (Lit r k) = None
stop_behind registers (Do op r a b c) = None
stop_behind registers (Store k r) = None
stop_behind registers (Load r k) = None
stop_behind registers (Check g r over_only label) = if is_one (at registers g) then stop_of over_only label (at registers r) else None
stop_behind registers (Output k r) = None

-- the cells have the values of a machine whose run hasn't ended
pub record Mirrors (used : List ℕ) (m : Machine) (rs ss os : List Value) : Type 0 where
  pub width : length rs ≡ REGISTERS
  pub room : length ss ≡ length used
  pub registers : (r : ℕ) → r < REGISTERS → at rs r ≡ m.registers r
  pub slots : (d : ℕ) → d < length used → at ss d ≡ m.slots (slice_index used d)
  pub outputs : os ≡ m.outputs
  pub going : m.ended ≡ None

-- the loop invariant of a run: from the current machine, the instructions from place i on do what
-- all instructions do from the first one
pub record GoesOn (inputs pool : List Value) (used : List ℕ) (packed : List Packed) (first : Machine) (i : ℕ) (rs ss os : List Value) : Type 0 where
  pub now : Machine
  pub mirrors : Mirrors used now rs ss os
  pub rest : acts inputs now (map (unpacked pool used) (drop i packed)) ≡ acts inputs first (map (unpacked pool used) packed)
