-- The allocator's invariant.
use Rattle.std.specs.Prelude.{◌≡◌, ℕ, suc, ◌+◌, ◌*◌, ◌<◌, ◌≤◌, nat_lt, Bool, true, ◌⊎◌, List, ◌++◌, [], ◌∷◌, length, slice_index_or, take, drop, map, Option}
use Rattle.std.specs.Prelude.{Some, None, if◌then◌else◌}
use Rattle.std.specs.List.{sum_by}
use Rattle.flat_code.specs.declared.program.Flat.{Flat}
use Rattle.flat_code.specs.declared.program.Node.{Node}
use Rattle.flat_code.specs.declared.program.Node.TheVariants.{Input, Lit, Do}
use Rattle.flat_code.specs.declared.program.Check.{Check}
use Rattle.reg_machine.specs.declared.instr.TheConstants.{REGISTERS}
use Rattle.reg_machine.specs.declared.instr.Instr.{Instr}
use Rattle.reg_machine.specs.declared.instr.Instr.TheVariants.{Take, Lit as TakeLit, Do as TakeDo}
use Rattle.reg_machine.specs.Flow.{Counts, Listing, State, reading, with_slots, repeats_first}
use Rattle.register_alloc.specs.declared.moment.TheConstants.{MOST}
use Rattle.register_alloc.specs.declared.moment.Moment.{Moment}
use Rattle.register_alloc.specs.declared.sources.Sources.{Sources}
use Rattle.register_alloc.specs.declared.room.Room.{Room}
use Rattle.register_alloc.specs.Width.{width_of, moment_from, reads_by, tests_by}
use Rattle.register_alloc.specs.Allocation.{spills_of, IsStoredTo}
use Rattle.register_alloc.specs.inner.Tables.{look, In, is_live, is_busy, Tables}
use Rattle.register_alloc.specs.inner.Valid.{IsInput}

-- the progress of the allocator, within the limits
pub record Order (flat : Flat) (made read checked : ℕ) : Type 0 where
  pub few_nodes : length flat.nodes ≤ MOST
  pub few_checks : length flat.checks ≤ MOST
  pub few_outputs : length flat.outputs ≤ MOST
  pub made_read : made ≤ read
  pub read_within : read ≤ length flat.nodes
  pub checked_within : checked ≤ length flat.checks
  pub late : checked < length flat.checks → read ≤ suc (moment_from 0 flat.checks checked)

-- a node was stored n times: never, or once, and then it is in a slot while it is live
abbrev pub Once : ℕ → ℕ → ℕ → (ℕ → Bool) → (ℕ → Option ℕ) → Type 0
Once n x made live s = (n ≡ 0) ⊎ ((n ≡ 1) × (x < made) × (live x ≡ true → In s x))

-- The counts of the code are those of the program, with the greatest number of slots. The program's
-- inputs and labels are below them.
pub record Counted (flat : Flat) (counts : Counts) : Type 0 where
  pub inputs : counts.inputs ≡ flat.inputs
  pub slots : counts.slots ≡ 4294967295
  pub outputs : counts.outputs ≡ length flat.outputs
  pub takes : (p : ℕ) (node : Node) → p < length flat.nodes → IsInput counts.inputs (slice_index_or flat.nodes p node)
  pub labels : (j : ℕ) (check : Check) → j < length flat.checks → (slice_index_or flat.checks j check).label < counts.labels

-- The code so far, with `count` slots or more, denotes the first nodes and checks and these
-- outputs; the tables have the nodes that its registers and slots hold; and it stores to each of
-- the `count` slots.
pub record Spells (flat : Flat) (made checked : ℕ) (given : List (Option ℕ)) (code : Listing) (r s : ℕ → Option ℕ) (count : ℕ) (live : ℕ → Bool) : Type 0 where
  pub state : State
  pub counted : Counted flat code.counts
  pub read : (n : ℕ) → count ≤ n → reading (with_slots code n) ≡ Some state
  pub registers : state.registers ≡ r
  pub slots : (k x : ℕ) → s k ≡ Some x → state.slots k ≡ Some x
  pub within : (k x : ℕ) → s k ≡ Some x → k < count
  pub used : (k : ℕ) → k < count → IsStoredTo k code
  pub nodes : state.nodes ≡ take made flat.nodes
  pub checks : state.checks ≡ take checked flat.checks
  pub outputs : state.outputs ≡ given
  pub stored : (x : ℕ) → Once (state.stored x) x made live s

-- there are at most as many slots as the width, and none if the registers suffice
pub record Few (flat : Flat) (code : Listing) (slots : ℕ) : Type 0 where
  pub within : slots ≤ width_of flat
  pub direct : width_of flat ≤ REGISTERS → (slots ≡ 0) × (spills_of code ≡ 0)

pub record Sound (flat : Flat) (made read checked : ℕ) (outputs : List (Option ℕ)) (code : Listing) (r s : ℕ → Option ℕ) (slots : ℕ) : Type 0 where
  pub order : Order flat made read checked
  pub tables : Tables (is_live flat made read checked) made r s
  pub spelled : Spells flat made checked outputs code r s slots (is_live flat made read checked)
  pub few : Few flat code slots

-- the outputs that are set before node p
abbrev pub given_before : ℕ → List ℕ → List (Option ℕ)
given_before p outputs = map (λ x. if nat_lt x p then Some x else None) outputs

-- the invariant, if these outputs are set
abbrev pub IsSoundWith : Flat → Moment → List (Option ℕ) → Room → Type 0
IsSoundWith flat at outputs room = Sound flat at.made at.read at.checked outputs room.code (look room.registers) (look room.slots) (length room.slots)

-- the invariant, if exactly the outputs of the nodes so far are set
abbrev pub IsSound : Flat → Moment → Room → Type 0
IsSound flat at room = IsSoundWith flat at (given_before at.made flat.outputs) room

-- the live nodes at a moment
abbrev pub live_at : Flat → Moment → ℕ → Bool
live_at flat at = is_live flat at.made at.read at.checked

-- all registers hold live nodes
abbrev pub AllBusy : Flat → Moment → Room → Type 0
AllBusy flat at room = (k : ℕ) → k < REGISTERS → is_busy (live_at flat at) (look room.registers k) ≡ true

-- register k holds a live node, or isn't a register
abbrev pub IsKept : Flat → Moment → Room → ℕ → Type 0
IsKept flat at room k = k < REGISTERS → is_busy (live_at flat at) (look room.registers k) ≡ true

-- register k may be overwritten: if it holds a live node, this node is also in a slot
abbrev pub IsSpare : Flat → Moment → Room → ℕ → Type 0
IsSpare flat at room k = (k < REGISTERS) × ((x : ℕ) → look room.registers k ≡ Some x → live_at flat at x ≡ true → In (look room.slots) x)

-- these registers hold the arguments of a node; those past the arity equal the first
abbrev pub HasSources : (ℕ → Option ℕ) → Node → Sources → Type 0
HasSources r (Input n) s = Unit {0}
HasSources r (Lit v) s = Unit {0}
HasSources r (Do op a b c) s = (r s.first ≡ Some a) × (r s.second ≡ Some b) × (r s.third ≡ Some c)
    × (s.first < REGISTERS) × (s.second < REGISTERS) × (s.third < REGISTERS) × (repeats_first op s.first s.second s.third ≡ true)

-- the instruction that makes a node in register k
abbrev pub instr_of : Node → ℕ → Sources → Instr
instr_of (Input n) k s = Take k n
instr_of (Lit v) k s = TakeLit k v
instr_of (Do op a b c) k s = TakeDo op k s.first s.second s.third

-- Slots are freed only of nodes that were read and aren't live.
pub record Cleared (read live : ℕ → Bool) (old new : ℕ → Option ℕ) : Type 0 where
  pub stays : (k y : ℕ) → old k ≡ Some y → live y ≡ true → new k ≡ Some y
  pub only : (k y : ℕ) → new k ≡ Some y → (old k ≡ Some y) × (read y ≡ true → live y ≡ true)

-- the outputs that are set when the first k outputs have been compared with node p
abbrev pub given_part : ℕ → ℕ → List ℕ → List (Option ℕ)
given_part p k outputs = given_before (suc p) (take k outputs) ++ given_before p (drop k outputs)

-- every check whose nodes are made is done
abbrev pub IsSettled : Flat → ℕ → ℕ → Type 0
IsSettled flat made checked = checked < length flat.checks → made ≤ moment_from 0 flat.checks checked

-- how often the nodes so far read node x
abbrev pub nodes_read : Flat → ℕ → ℕ → ℕ
nodes_read flat made x = sum_by (reads_by x) (take made flat.nodes)

-- how often the checks so far read node x
abbrev pub checks_read : Flat → ℕ → ℕ → ℕ
checks_read flat checked x = sum_by (tests_by x) (take checked flat.checks)

-- the number of outputs that are set
abbrev pub count_some : List (Option ℕ) → ℕ
count_some [] = 0
count_some (None ∷ outputs) = count_some outputs
count_some (Some x ∷ outputs) = suc (count_some outputs)

-- the number of outputs that are set before node p
abbrev pub count_given : ℕ → List ℕ → ℕ
count_given p outputs = count_some (given_before p outputs)

-- A node takes at most eight instructions, a check at most five, and an output one.
abbrev pub IsShort : Flat → Moment → List Instr → Type 0
IsShort flat at instrs = length instrs ≤ 8 * at.made + 5 * at.checked + count_given at.made flat.outputs
