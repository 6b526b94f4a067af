-- A driver without its calls of the rules. If a base has neither definitions nor checks, such a
-- call changes nothing.
use Rattle.std.specs.Prelude.{◌≡◌, List, [], ◌∷◌, ◌++◌, map}
use Rattle.micro_m.specs.declared.base.Base.{Base}
use Rattle.driver_core.specs.declared.program.Core.{Core}
use Rattle.driver_core.specs.Actions.{Action, assign, clear, branch, partition, call, solve, Block, no_actions, an_action}
use Rattle.driver_core.specs.ActionView.{block_of}

-- a base without definitions and checks
pub record IsRuleless (base : Base) : Type 0 where
  pub definitions : base.definitions ≡ []
  pub checks : base.checks ≡ []

abbrev mutual
  -- a command without the calls of the rules in it; nothing, if it is such a call
  pub left : Action → List Action
  left (assign line c term) = assign line c term ∷ []
  left (clear line c) = clear line c ∷ []
  left (branch line condition first second) = branch line condition (block_of (left_behind [] first)) (block_of (left_behind [] second)) ∷ []
  left (partition line cells block) = partition line cells (block_of (left_behind [] block)) ∷ []
  left (call line names received function) = call line names received function ∷ []
  left (solve line names received) = []

  -- these commands, followed by the block without its calls of the rules
  pub left_behind : List Action → Block → List Action
  left_behind before no_actions = before
  left_behind before (an_action action rest) = left_behind (before ++ left action) rest

-- the bodies of functions without their calls of the rules
abbrev pub body_left : List Action → List Action
body_left body = left_behind [] (block_of body)

abbrev pub left_in : List (List Action) → List (List Action)
left_in bodies = map body_left bodies

-- the driver without its calls of the rules
abbrev pub core_left : Core → Core
core_left core = record { cells = core.cells; names = core.names; bodies = left_in core.bodies; main = core.main }
