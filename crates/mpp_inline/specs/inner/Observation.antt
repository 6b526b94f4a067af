-- The observation of a finished program.
use Rattle.std.specs.Prelude.{◌≡◌, ℕ, List, ◌++◌, Option, Some, None, map, length}
use Rattle.std.specs.List.{AllByRecursion}
use Rattle.m_fixed.specs.declared.amount.Value.{Value}
use Rattle.m_symbols.specs.Declarations.{Declared}
use Rattle.micro_m.specs.declared.base.Base.{Base}
use Rattle.m_places.specs.declared.verification.Label.{Label}
use Rattle.observables.specs.Answers.{Cause, Observation, values, stopped}
use Rattle.observables.specs.Inputs.{AreValuesOf}
use Rattle.driver_core.specs.declared.program.Core.{Core}
use Rattle.driver_core.specs.Answers.{answer_of}
use Rattle.driver_core.specs.Inputs.{inputs_declared}
use Rattle.mpp_inline.specs.Labelling.{labelling_of}
use Rattle.mpp_inline.specs.declared.builder.Builder.{Builder}
use Rattle.mpp_inline.specs.inner.Labels.{labelling_by}
use Rattle.mpp_inline.specs.inner.Growth.{at, SoFar, so_far, Sane, HasFaces, IsUsable, kinds_from}

-- the observation of a stop if there is one, otherwise of these notes and values
abbrev pub ended : Option Cause → List Label → List Value → Observation
ended None notes vs = values notes vs
ended (Some cause) notes vs = stopped cause

abbrev pub ended_so : SoFar → List Value → Observation
ended_so s vs = ended s.stop s.notes vs

-- the nodes of notes, and the numbers of their labels
abbrev pub nodes_of : List (ℕ × ℕ) → List ℕ
nodes_of notes = map (λ n. n.0) notes

abbrev pub numbers_of : List (ℕ × ℕ) → List ℕ
numbers_of notes = map (λ n. n.1) notes

-- a finished program with the labels, checks and notes of the driver, whose outputs are the notes,
-- then the requested cells, and whose observation is the driver's answer
pub record Answers (core : Core) (base : Base) (declared : Declared) (requests : List ℕ) (b : Builder) (outputs : List ℕ) : Type 0 where
  pub sane : Sane b
  pub labelled : HasFaces base.labels b
  pub labelling : labelling_by b ≡ labelling_of core base
  pub inputs : b.inputs ≡ kinds_from declared.variables
  pub wanted : List ℕ
  pub outputs_are : outputs ≡ nodes_of b.notes.items ++ wanted
  pub requested_known : AllByRecursion (IsUsable b) wanted
  pub requested_long : length wanted ≡ length requests
  pub answer : (inputs : List Value) → AreValuesOf (inputs_declared declared) inputs
      → ended_so (so_far b inputs) (map (at b inputs) wanted) ≡ answer_of core base declared requests inputs
