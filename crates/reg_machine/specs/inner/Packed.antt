-- Packed instructions: literals are in a pool, and the used slots are numbered among themselves.
use Rattle.std.specs.Prelude.{◌≡◌, ℕ, ◌+◌, ◌<◌, ◌≤◌, ◌⊎◌, Bool, true, false, List, slice_index_or, slice_index, map, length, Some, None, is_some}
use Rattle.std.specs.List.{AllByRecursion}
use Rattle.std.specs.Ordering.{nat_cmp}
use Rattle.std.specs.BTreeMap.{BTreeMap, get}
use Rattle.std.specs.BTreeSet.{BTreeSet, contains}
use Rattle.reg_machine.specs.Flow.{Listing, State, code_fault, reading, wrong_behind}
use Rattle.m_fixed.specs.declared.amount.Value.{Value}
use Rattle.m_fixed.specs.declared.amount.Value.TheVariants.{Undef}
use Rattle.reg_machine.specs.declared.instr.Instr.{Instr}
use Rattle.reg_machine.specs.declared.instr.Instr.TheVariants.{Take, Lit, Do, Store, Load, Check, Output}
use Rattle.reg_machine.specs.declared.instr.TheConstants.{REGISTERS}
use Rattle.reg_machine.specs.declared.code.Packed.{Packed}
use Rattle.reg_machine.specs.declared.code.Parts.{Parts}
use Rattle.reg_machine.specs.declared.code.Packed.TheVariants.{Take as Takes, Lit as Lits, Do as Does, Store as Stores, Load as Loads, Check as Checks}
use Rattle.reg_machine.specs.declared.code.Packed.TheVariants.{Output as Outputs}

-- the instruction, given the pool and the used slots
abbrev pub unpacked : List Value → List ℕ → Packed → Instr
unpacked pool slots (Takes r n) = Take r n
unpacked pool slots (Lits r at) = Lit r (slice_index_or pool at Undef)
unpacked pool slots (Does op r a b c) = Do op r a b c
unpacked pool slots (Stores k r) = Store (slice_index slots k) r
unpacked pool slots (Loads r k) = Load r (slice_index slots k)
unpacked pool slots (Checks g r over_only label) = Check g r over_only label
unpacked pool slots (Outputs k r) = Output k r

-- the numbers of a packed instruction are below these counts
abbrev pub IsPacked : ℕ → ℕ → ℕ → ℕ → Packed → Type 0
IsPacked inputs outputs pool slots (Takes r n) = (r < REGISTERS) × (n < inputs)
IsPacked inputs outputs pool slots (Lits r at) = (r < REGISTERS) × (at < pool)
IsPacked inputs outputs pool slots (Does op r a b c) = (r < REGISTERS) × (a < REGISTERS) × (b < REGISTERS) × (c < REGISTERS)
IsPacked inputs outputs pool slots (Stores k r) = (k < slots) × (r < REGISTERS)
IsPacked inputs outputs pool slots (Loads r k) = (r < REGISTERS) × (k < slots)
IsPacked inputs outputs pool slots (Checks g r over_only label) = (g < REGISTERS) × (r < REGISTERS)
IsPacked inputs outputs pool slots (Outputs k r) = (k < outputs) × (r < REGISTERS)

-- its places in the pool and among the used slots are below these counts
abbrev pub IsUnder : ℕ → ℕ → Packed → Type 0
IsUnder pool slots (Takes r n) = Unit {0}
IsUnder pool slots (Lits r at) = at < pool
IsUnder pool slots (Does op r a b c) = Unit {0}
IsUnder pool slots (Stores k r) = k < slots
IsUnder pool slots (Loads r k) = k < slots
IsUnder pool slots (Checks g r over_only label) = Unit {0}
IsUnder pool slots (Outputs k r) = Unit {0}

-- the code that is packed
abbrev pub listing_of : ℕ → ℕ → ℕ → ℕ → List Value → List ℕ → List Packed → Listing
listing_of inputs slots labels outputs pool used packed = record {
  counts = record { inputs = inputs; slots = slots; labels = labels; outputs = outputs };
  instrs = map (unpacked pool used) packed;
}

-- a list contains a number
abbrev pub IsAmong : ℕ → List ℕ → Type 0
IsAmong k slots = (d : ℕ) × (d < length slots) × (slice_index slots d ≡ k)

-- no number occurs twice in a list
abbrev pub AreDistinct : List ℕ → Type 0
AreDistinct slots = (i j : ℕ) → i < length slots → j < length slots → slice_index slots i ≡ slice_index slots j → i ≡ j

-- Packed code without an error.
pub record AreParts (code : Listing) (parts : Parts) : Type 0 where
  pub listing : listing_of code.counts.inputs code.counts.slots code.counts.labels code.counts.outputs parts.pool.now parts.used.now parts.packed.now ≡ code
  pub right : code_fault code ≡ None
  pub packed : AllByRecursion (IsPacked code.counts.inputs code.counts.outputs (length parts.pool.now) (length parts.used.now)) parts.packed.now
  pub distinct : AreDistinct parts.used.now

-- each used slot is mapped to its place in the list
pub record IsNumbered (numbers : BTreeMap ℕ ℕ) (used : List ℕ) : Type 0 where
  pub found : (k d : ℕ) → get nat_cmp numbers k ≡ Some d → (d < length used) × (slice_index used d ≡ k)
  pub all : (d : ℕ) → d < length used → get nat_cmp numbers (slice_index used d) ≡ Some d

-- an instruction that can be appended to valid code
abbrev pub IsRight : Listing → Instr → Type 0
IsRight code instr = wrong_behind code instr ≡ None

-- The invariant of a builder: the code so far is valid, and the builder has which registers and
-- slots were written and which outputs were set.
pub record IsDraft (code : Listing) (kept : List Packed) (pool : List Value) (used : List ℕ) (written : List Bool) (outputs : BTreeSet ℕ) : Type 0 where
  pub state : State
  pub read : reading code ≡ Some state
  pub packed : AllByRecursion (IsPacked code.counts.inputs code.counts.outputs (length pool) (length used)) kept
  pub few_literals : length pool ≤ length kept
  pub few_slots : length used ≤ length kept
  pub width : length written ≡ REGISTERS
  pub registers : (r : ℕ) → slice_index_or written r false ≡ is_some (state.registers r)
  pub stored : (k : ℕ) → IsAmong k used → is_some (state.slots k) ≡ true
  pub known : (k : ℕ) → is_some (state.slots k) ≡ true → IsAmong k used
  pub count : length state.outputs ≡ code.counts.outputs
  pub given : (k : ℕ) → contains nat_cmp outputs k ≡ is_some (slice_index_or state.outputs k None)

-- at most slot k was added to the used slots, at the end
pub record Grown (used more : List ℕ) (k : ℕ) : Type 0 where
  pub same : (d : ℕ) → d < length used → slice_index more d ≡ slice_index used d
  pub longer : length used ≤ length more
  pub most : length more ≤ length used + 1
  pub only : (q : ℕ) → IsAmong q more → (q ≡ k) ⊎ IsAmong q used
