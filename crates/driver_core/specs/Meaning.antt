-- The semantics of a driver: commands change the values of the cells in sequence, and a stop ends
-- the run.
use Rattle.std.specs.Prelude.{ℕ, zero, suc, List, [], ◌∷◌, Option, Some, None, length, slice_set, if◌then◌else◌, slice_get, option_map, option_and_then}
use Rattle.m_fixed.specs.declared.amount.Value.{Value}
use Rattle.m_fixed.specs.declared.amount.Value.TheVariants.{Undef, Num, Over}
use Rattle.m_fixed.specs.Operators.{is_zero}
use Rattle.m_places.specs.declared.verification.Label.{Label}
use Rattle.micro_m.specs.declared.base.Base.{Base}
use Rattle.micro_m.specs.declared.base.Failure.{Failure}
use Rattle.micro_m.specs.declared.base.Failure.TheVariants.{Failed, Over as OverCheck}
use Rattle.micro_m.specs.Values.{Environment, environment, term_value, value_of}
use Rattle.micro_m.specs.Failures.{first_failure, notes_of}
use Rattle.observables.specs.Answers.{Cause, failed, over, over_driver}
use Rattle.driver_core.specs.declared.program.Core.{Core}
use Rattle.driver_core.specs.Actions.{Action, assign, clear, branch, partition, call, solve, Block, no_actions, an_action}
use Rattle.driver_core.specs.Valid.{body_among, body_of}

-- ---- runs

-- the values of all cells, in order; a cell beyond them is undefined
abbrev pub Env : Type 0
Env = List Value

-- the state of a run: its notes and its environment, or what stopped it
pub data RunState : Type 0 where
  goes : List Label → Env → RunState
  stops : Cause → RunState

-- prepends a note; a stopped run has none
abbrev pub noted : Label → RunState → RunState
noted note (goes notes env) = goes (note ∷ notes) env
noted note (stops cause) = stops cause

-- prepends notes
abbrev pub behind : List Label → RunState → RunState
behind [] outcome = outcome
behind (note ∷ notes) outcome = noted note (behind notes outcome)

-- continues a run unless it has stopped; the notes before precede the new ones
abbrev pub then_do : RunState → (Env → RunState) → RunState
then_do (goes notes env) next = behind notes (next env)
then_do (stops cause) next = stops cause

-- the environment in which these cells have the values that another gives them, and all others
-- their own
abbrev pub with_values : List ℕ → Environment → Env → Env
with_values [] values env = env
with_values (c ∷ cs) values env = with_values cs values (slice_set env c (values c))

-- an environment in which these cells are undefined
abbrev pub without : List ℕ → Env → Env
without cells env = with_values cells (λ c. Undef) env

-- The block that a condition selects: the first at a number other than 0, the second at 0 or
-- undefined. Over stops the run, with the number of the line.
abbrev pub chosen_block : ℕ → Value → RunState → RunState → RunState
chosen_block line Undef first second = second
chosen_block line (Num x) first second = if is_zero x then second else first
chosen_block line Over first second = stops (over_driver line)

-- the cause of a stop by a check that fails or is over: its label
abbrev pub failure_cause : List Label → Failure → Option Cause
failure_cause labels (Failed number) = option_map failed (slice_get labels number)
failure_cause labels (OverCheck number) = option_map over (slice_get labels number)

-- a stop if there is a cause, else this run
abbrev pub unless_stopped : Option Cause → RunState → RunState
unless_stopped None outcome = outcome
unless_stopped (Some cause) outcome = stops cause

-- A call of the rules: the first check, by the values that the rules compute, that fails or is over
-- stops the run with its label. If there is none, the received cells get the computed values, all
-- others keep theirs, and the met checks of the two other kinds are noted.
abbrev pub rules_run : Base → List ℕ → Env → RunState
rules_run base received env =
    unless_stopped (option_and_then (failure_cause base.labels) (first_failure base (environment env)))
    (goes (notes_of base (environment env)) (with_values received (value_of base (environment env)) env))

module _ (rules : List ℕ → Env → RunState) (body : ℕ → Env → RunState) where
  abbrev mutual
    -- The effect of a command, given the effects of the rules and the functions. A partition runs
    -- its block with its cells undefined, then restores their former values; other changes remain.
    -- A call runs the body on a copy, of which only the received cells are copied back. Both keep
    -- the notes of their block or body.
    pub action_run : Action → Env → RunState
    action_run (assign line c term) env = goes [] (slice_set env c (term_value (environment env) term))
    action_run (clear line c) env = goes [] (slice_set env c Undef)
    action_run (branch line condition first second) env =
        chosen_block line (term_value (environment env) condition) (block_run first env) (block_run second env)
    action_run (partition line cells block) env =
        then_do (block_run block (without cells env)) (λ after. goes [] (with_values cells (environment env) after))
    action_run (call line names received function) env =
        then_do (body function env) (λ after. goes [] (with_values received (environment after) env))
    action_run (solve line names received) env = rules received env

    -- commands in sequence
    pub block_run : Block → Env → RunState
    block_run no_actions env = goes [] env
    block_run (an_action action rest) env = then_do (action_run action env) (block_run rest)

-- The effect of a call of a function, with calls nested at most `turns` deep. If there is no cycle
-- of calls, as many turns as functions are enough.
abbrev pub called : (List ℕ → Env → RunState) → List (List Action) → ℕ → ℕ → Env → RunState
called rules bodies zero f env = goes [] env
called rules bodies (suc turns) f env = block_run rules (called rules bodies turns) (body_among bodies f) env

-- the run of a driver over the rules of a base
abbrev pub run_of : Core → Base → Env → RunState
run_of core base env =
    block_run (rules_run base) (called (rules_run base) core.bodies (length core.bodies)) (body_of core core.main) env
