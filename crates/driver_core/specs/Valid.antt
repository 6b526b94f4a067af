-- Valid drivers: each cell and function that is named exists, and no function reaches itself by
-- calls.
use Rattle.std.specs.Prelude.{◌≡◌, ℕ, ◌<◌, ◌⊎◌, List, [], ◌∷◌, length, All, Option, None, Some, slice_get}
use Rattle.micro_m.specs.Bases.{IsWithin}
use Rattle.micro_m.specs.Reads.{IsCycle}
use Rattle.driver_core.specs.declared.program.Core.{Core}
use Rattle.driver_core.specs.Actions.{Action, assign, clear, branch, partition, call, solve, Block, no_actions, an_action}
use Rattle.driver_core.specs.ActionView.{block_of}

-- ---- bodies

abbrev pub block_or_none : Option (List Action) → Block
block_or_none None = no_actions
block_or_none (Some commands) = block_of commands

-- the commands of a function, none if there is no such function
abbrev pub body_among : List (List Action) → ℕ → Block
body_among bodies f = block_or_none (slice_get bodies f)

abbrev pub body_of : Core → ℕ → Block
body_of core f = body_among core.bodies f

-- ---- numbers in range

abbrev pub CellsAreWithin : ℕ → List ℕ → Type 0
CellsAreWithin cells named = All (λ c. c < cells) named

abbrev mutual
  -- each cell of a command is below a count, and each function too
  pub ActionIsWithin : ℕ → ℕ → Action → Type 0
  ActionIsWithin cells functions (assign line c term) = (c < cells) × IsWithin cells term
  ActionIsWithin cells functions (clear line c) = c < cells
  ActionIsWithin cells functions (branch line condition first second) =
      IsWithin cells condition × BlockIsWithin cells functions first × BlockIsWithin cells functions second
  ActionIsWithin cells functions (partition line named block) = CellsAreWithin cells named × BlockIsWithin cells functions block
  ActionIsWithin cells functions (call line names received function) = CellsAreWithin cells received × (function < functions)
  ActionIsWithin cells functions (solve line names received) = CellsAreWithin cells received

  pub BlockIsWithin : ℕ → ℕ → Block → Type 0
  BlockIsWithin cells functions no_actions = Unit {0}
  BlockIsWithin cells functions (an_action action rest) = ActionIsWithin cells functions action × BlockIsWithin cells functions rest

-- ---- calls

abbrev mutual
  -- a command calls a function if a call of it occurs in it, in any branch
  pub ActionCalls : Action → ℕ → Type 0
  ActionCalls (branch line condition first second) f = BlockCalls first f ⊎ BlockCalls second f
  ActionCalls (partition line named block) f = BlockCalls block f
  ActionCalls (call line names received function) f = f ≡ function
  ActionCalls _ f = ⊥

  pub BlockCalls : Block → ℕ → Type 0
  BlockCalls no_actions f = ⊥
  BlockCalls (an_action action rest) f = ActionCalls action f ⊎ BlockCalls rest f

-- a function calls another
abbrev pub Calls : Core → ℕ → ℕ → Type 0
Calls core f g = BlockCalls (body_of core f) g

-- no function reaches itself by calls: there is no cycle of calls
abbrev pub HasNoRing : Core → Type 0
HasNoRing core = (functions : List ℕ) → IsCycle (Calls core) functions → ⊥

-- ---- a valid driver

-- all its numbers are in range
pub record IsInRange (core : Core) : Type 0 where
  pub names : length core.names ≡ length core.bodies
  pub main : core.main < length core.bodies
  pub bodies : All (λ commands. BlockIsWithin core.cells (length core.bodies) (block_of commands)) core.bodies

-- A valid driver: its numbers are in range, and no function reaches itself.
pub record IsValidCore (core : Core) : Type 0 where
  pub in_range : IsInRange core
  pub no_ring : HasNoRing core
