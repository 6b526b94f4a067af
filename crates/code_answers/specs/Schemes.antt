-- What a valid source means: its inputs, its outputs and its observations.
use Rattle.std.specs.Prelude.{ℕ, ℤ, List, length}
use Rattle.m_fixed.specs.declared.amount.Value.{Value}
use Rattle.observables.specs.declared.inputs.Coded.{Coded}
use Rattle.observables.specs.Answers.{Observation}
use Rattle.household.specs.Household.{values_of}

-- The inputs, the names of the requested values, and what is observed for values of the inputs.
pub record Scheme : Type 0 where
  pub inputs : List Coded
  pub names : List (List ℕ)
  pub observe : List Value → Observation

-- what is observed for the amounts of a household
abbrev pub observation_for : Scheme → List (ℕ × ℤ) → Observation
observation_for scheme pairs = scheme.observe (values_of pairs (length scheme.inputs))
