-- What an allocation guarantees.
use Rattle.std.specs.Prelude.{◌≡◌, ℕ, ◌≤◌, ◌<◌, ◌==◌, Bool, true, false, length, count_by, All, Some}
use Rattle.std.specs.List.{list_any}
use Rattle.flat_code.specs.declared.program.Flat.{Flat}
use Rattle.reg_machine.specs.declared.instr.TheConstants.{REGISTERS}
use Rattle.reg_machine.specs.declared.instr.Instr.{Instr}
use Rattle.reg_machine.specs.declared.instr.Instr.TheVariants.{Store, Load}
use Rattle.reg_machine.specs.Flow.{Listing, flow_of, stores_of, loads_of}
use Rattle.register_alloc.specs.declared.moment.TheConstants.{MOST}
use Rattle.register_alloc.specs.Width.{width_of, reads_of}

-- whether an instruction is `Store` or `Load`
abbrev pub is_spill : Instr → Bool
is_spill (Store k r) = true
is_spill (Load r k) = true
is_spill _ = false

-- the number of such instructions
abbrev pub spills_of : Listing → ℕ
spills_of code = count_by is_spill code.instrs

-- whether an instruction stores to slot k
abbrev pub stores_to : ℕ → Instr → Bool
stores_to k (Store j r) = j == k
stores_to k _ = false

-- the code stores to slot k
abbrev pub IsStoredTo : ℕ → Listing → Type 0
IsStoredTo k code = list_any (stores_to k) code.instrs ≡ true

-- a program whose code has at most 2^32 - 1 instructions, and whose labels are below the count
pub record IsSmall (flat : Flat) (labels : ℕ) : Type 0 where
  pub nodes : length flat.nodes ≤ MOST
  pub checks : length flat.checks ≤ MOST
  pub outputs : length flat.outputs ≤ MOST
  pub labelled : All (λ check. check.label < labels) flat.checks

-- The code denotes the program, with this number of labels. It has at most as many slots as the
-- program's width, and stores to each. It has neither `Store` nor `Load` if the width is at most
-- the number of registers. A node is stored at most once, and loaded at most once for each read by
-- an argument within the arity, a guard or a condition.
pub record IsAllocation (flat : Flat) (labels : ℕ) (code : Listing) : Type 0 where
  pub flow : flow_of code ≡ Some flat
  pub labelled : code.counts.labels ≡ labels
  pub slots : code.counts.slots ≤ width_of flat
  pub used : (k : ℕ) → k < code.counts.slots → IsStoredTo k code
  pub direct : width_of flat ≤ REGISTERS → spills_of code ≡ 0
  pub stores : (x : ℕ) → stores_of x code ≤ 1
  pub loads : (x : ℕ) → loads_of x code ≤ reads_of x flat
