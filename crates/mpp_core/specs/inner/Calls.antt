-- The calls of functions as a base of rules: a cell for each function, which reads the functions that it calls.
use Rattle.std.specs.Prelude.{ℕ, ◌+◌, List, [], ◌∷◌, ◌++◌, length}
use Rattle.m_fixed.specs.declared.amount.Value.TheVariants.{Undef}
use Rattle.m_fixed.specs.declared.operator.Op.TheVariants.{Add}
use Rattle.m_places.specs.declared.place.Place.{Place}
use Rattle.micro_m.specs.Trees.{Tree, lit, cell, chain}
use Rattle.micro_m.specs.Views.{steps_of}
use Rattle.micro_m.specs.Bases.{Definition}
use Rattle.micro_m.specs.declared.base.Base.{Base}
use Rattle.micro_m.specs.declared.term.Step.{Step}
use Rattle.driver_core.specs.Actions.{Action, assign, clear, branch, partition, call, solve, Block, no_actions, an_action}
use Rattle.driver_core.specs.ActionView.{block_of}

-- a step of a sum, which reads a function's cell
abbrev pub call_step : ℕ → Step ℕ
call_step f = record { op = Add; term = cell f }

abbrev mutual
  -- a step for each call in a command or a block, in order
  pub action_steps : Action → List (Step ℕ)
  action_steps (assign line c term) = []
  action_steps (clear line c) = []
  action_steps (branch line condition first second) = block_steps first ++ block_steps second
  action_steps (partition line cells block) = block_steps block
  action_steps (call line names received function) = call_step function ∷ []
  action_steps (solve line names received) = []

  pub block_steps : Block → List (Step ℕ)
  block_steps no_actions = []
  block_steps (an_action action rest) = action_steps action ++ block_steps rest

-- the sum of the functions that a block calls
abbrev pub calls_term : Block → Tree
calls_term block = chain (lit Undef) (steps_of (block_steps block))

abbrev pub no_place : Place
no_place = record { file = 0; byte = 0; line = 0 }

-- a definition for each function, of which the first has this number
abbrev pub calls_from : ℕ → List (List Action) → List Definition
calls_from f [] = []
calls_from f (body ∷ bodies) = (f, calls_term (block_of body), no_place) ∷ calls_from (f + 1) bodies

-- The calls of functions with these bodies as a base: if function 0 calls 1 and 2, the cell 0 is
-- defined by the sum of the cells 1 and 2.
abbrev pub calls_base : List (List Action) → Base
calls_base bodies = record { cells = length bodies; constants = []; definitions = calls_from 0 bodies; checks = []; labels = [] }
