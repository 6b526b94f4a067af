-- The table of weights while it is filled.
use Rattle.std.specs.Prelude.{◌≡◌, ℕ, suc, ◌≤◌, Bool, true, false, List, length, slice_index_or}
use Rattle.micro_m.specs.declared.base.Base.{Base}
use Rattle.driver_core.specs.declared.program.Core.{Core}
use Rattle.driver_core.specs.Actions.{Action, assign, clear, branch, partition, call, solve, Block, no_actions, an_action}
use Rattle.driver_core.specs.Weights.{base_weight, body_weight}
use Rattle.driver_core.specs.inner.Capped.{capped}

-- a property of each function that is called
module _ (P : ℕ → Type 0) where
  abbrev mutual
    pub ActionCallsOnly : Action → Type 0
    ActionCallsOnly (assign line c term) = Unit {0}
    ActionCallsOnly (clear line c) = Unit {0}
    ActionCallsOnly (branch line condition first second) = CallsOnly first × CallsOnly second
    ActionCallsOnly (partition line cells block) = CallsOnly block
    ActionCallsOnly (call line names received function) = P function
    ActionCallsOnly (solve line names received) = Unit {0}

    pub CallsOnly : Block → Type 0
    CallsOnly no_actions = Unit {0}
    CallsOnly (an_action action rest) = ActionCallsOnly action × CallsOnly rest

abbrev pub IsDone : List Bool → ℕ → Type 0
IsDone done f = slice_index_or done f false ≡ true

-- the weight of a function, with calls nested at most `turns` deep
abbrev pub weight_in : Core → Base → ℕ → ℕ → ℕ
weight_in core base turns f = body_weight (base_weight base) base.cells core.bodies turns f

-- With `count` functions done, each of them has its weight, which more turns don't change.
pub record IsTable (core : Core) (base : Base) (weights : List ℕ) (done : List Bool) (count : ℕ) : Type 0 where
  pub size : length weights ≡ length done
  pub weighed : (f : ℕ) → IsDone done f → (turns : ℕ) → count ≤ turns → slice_index_or weights f 0 ≡ capped (weight_in core base turns f)

-- each function that is done has its weight in the driver
pub record IsFound (core : Core) (base : Base) (weights : List ℕ) (done : List Bool) : Type 0 where
  pub weighed : (f : ℕ) → IsDone done f → slice_index_or weights f 0 ≡ capped (weight_in core base (suc (length core.bodies)) f)
