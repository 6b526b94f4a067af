-- When findings are true: they hold of the observations of all households within the facts.
use Rattle.std.specs.Prelude.{◌≡◌, ℕ, List, Contains, Some}
use Rattle.std.specs.List.{AllZip}
use Rattle.m_fixed.specs.declared.amount.Value.{Value}
use Rattle.m_places.specs.declared.verification.Label.{Label}
use Rattle.definedness.specs.Facts.{Possible, Holds}
use Rattle.observables.specs.declared.inputs.Coded.{Coded}
use Rattle.observables.specs.Answers.{Observation, values}
use Rattle.observables.specs.Inputs.{AreValuesOf}
use Rattle.flat_code.specs.Facts.{AreWithin}
use Rattle.flat_code.specs.Runs.{value_at}
use Rattle.micro_m.specs.declared.base.Base.{Base}
use Rattle.m_lint.specs.Findings.{label_of_check}
use Rattle.m_lint.specs.Truths.{ReportsEnding}

-- values that the inputs may have, each possible by the fact of its input
pub record AreAllowed (inputs : List Coded) (given : List Possible) (vs : List Value) : Type 0 where
  pub may : AreValuesOf inputs vs
  pub within : AreWithin given vs

-- Every value reported to a household within the facts is possible by the fact of its cell.
abbrev pub ArePossible : List Coded → List Possible → (List Value → Observation) → List Possible → Type 0
ArePossible inputs given observe facts =
    (vs : List Value) → AreAllowed inputs given vs → (notes : List Label) (reported : List Value) → observe vs ≡ values notes reported
    → AllZip Holds facts reported

-- The label of the check is reported to no household within the facts.
abbrev pub IsSilent : Base → List Coded → List Possible → (List Value → Observation) → ℕ → Type 0
IsSilent base inputs given observe k =
    (label : Label) → label_of_check base k ≡ Some label → (vs : List Value) → AreAllowed inputs given vs → ReportsEnding (observe vs) label → ⊥

-- two lists have the same values for the inputs with these numbers
abbrev pub AgreeOn : List ℕ → List Value → List Value → Type 0
AgreeOn ns vs ws = (n : ℕ) → Contains ns n → value_at vs n ≡ value_at ws n

-- If two households within the facts agree on these inputs, and neither run stops, both are given
-- the same value at this place.
abbrev pub DependsOn : List Coded → List Possible → (List Value → Observation) → ℕ → List ℕ → Type 0
DependsOn inputs given observe place ns =
    (vs ws : List Value) → AreAllowed inputs given vs → AreAllowed inputs given ws → AgreeOn ns vs ws
    → (notes others : List Label) (reported stated : List Value) → observe vs ≡ values notes reported → observe ws ≡ values others stated
    → value_at reported place ≡ value_at stated place
