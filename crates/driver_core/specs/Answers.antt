-- The observation of a whole run, from the inputs of a household to the requested cells.
use Rattle.std.specs.Prelude.{ℕ, ◌+◌, List, [], ◌∷◌, ◌++◌, map, replicate, slice_index_or, if◌then◌else◌}
use Rattle.m_fixed.specs.declared.amount.Value.{Value}
use Rattle.m_fixed.specs.declared.amount.Value.TheVariants.{Undef, Num}
use Rattle.m_ast.specs.declared.variable.Role.{Role}
use Rattle.m_ast.specs.declared.variable.Role.TheVariants.{Input, Computed, Constant}
use Rattle.m_ast.specs.Items.{is_input}
use Rattle.m_symbols.specs.declared.variable.Variable.{Variable}
use Rattle.m_symbols.specs.Declarations.{Declared}
use Rattle.micro_m.specs.declared.base.Base.{Base}
use Rattle.micro_m.specs.Values.{environment}
use Rattle.observables.specs.Answers.{Observation, values, stopped}
use Rattle.driver_core.specs.declared.program.Core.{Core}
use Rattle.driver_core.specs.Meaning.{Env, RunState, goes, stops, run_of}

-- the initial value of a variable's cells, where the next input has this number: an input's value,
-- a constant's amount, else undefined
abbrev pub first_value : List Value → ℕ → Role → Value
first_value inputs n (Input code) = slice_index_or inputs n Undef
first_value inputs n (Computed size) = Undef
first_value inputs n (Constant amount) = Num amount

-- the number of the input after a variable
abbrev pub next_input : ℕ → Role → ℕ
next_input n role = if is_input role then n + 1 else n

-- the initial values of the cells of variables, where the first input among them has this number
abbrev pub start_from : List Value → ℕ → List Variable → Env
start_from inputs n [] = []
start_from inputs n (v ∷ vs) = replicate v.cells (first_value inputs n v.item.role) ++ start_from inputs (next_input n v.item.role) vs

-- The initial environment, for a value of each input in order of declaration: for the input `V`,
-- the constant `C` of 2 and the table `T` of 2 cells it is, for 7, the list 7, 2, undefined,
-- undefined.
abbrev pub start_of : Declared → List Value → Env
start_of declared inputs = start_from inputs 0 declared.variables

-- the observation of a run: its stop, or its notes and the values of the requested cells
abbrev pub observation_by : List ℕ → RunState → Observation
observation_by requests (goes notes env) = values notes (map (environment env) requests)
observation_by requests (stops cause) = stopped cause

-- The observation of a driver's run over the rules of a base, for the inputs' values in order of
-- declaration: what stopped the run, or its notes and the values of the requested cells at its end.
abbrev pub answer_of : Core → Base → Declared → List ℕ → List Value → Observation
answer_of core base declared requests inputs = observation_by requests (run_of core base (start_of declared inputs))
