-- When a finding is true, for every observation of a household.
use Rattle.std.specs.Prelude.{◌≡◌, ◌≢◌, ℕ, ◌⊎◌, false, List, Contains, Some, None, slice_index_or}
use Rattle.m_fixed.specs.declared.amount.Value.{Value}
use Rattle.m_fixed.specs.declared.amount.Value.TheVariants.{Undef}
use Rattle.m_places.specs.declared.verification.Label.{Label}
use Rattle.observables.specs.declared.inputs.Coded.{Coded}
use Rattle.observables.specs.Inputs.{AreValuesOf}
use Rattle.observables.specs.Answers.{Observation, values, stopped, failed, over}
use Rattle.m_symbols.specs.Declarations.{Declared}
use Rattle.micro_m.specs.Trees.{Tree}
use Rattle.micro_m.specs.declared.base.Base.{Base}
use Rattle.micro_m.specs.Bases.{definition_of, terms_of}
use Rattle.micro_m.specs.Reads.{TermReads}
use Rattle.m_lint.specs.declared.finding.Finding.{Finding}
use Rattle.m_lint.specs.declared.finding.Finding.TheVariants.{NeverDefined, NeverStops, Unused}
use Rattle.m_lint.specs.Readings.{conditions_of}
use Rattle.m_lint.specs.Findings.{is_given, label_of_check}

-- ---- a cell that is never defined

-- one of these terms reads the cell
abbrev pub AreRead : List Tree → ℕ → Type 0
AreRead terms c = (term : Tree) × Contains terms term × TermReads term c

-- A definition or a check's condition reads the cell, it belongs to no input and no constant, and it has no definition.
pub record IsNeverDefined (declared : Declared) (base : Base) (c : ℕ) : Type 0 where
  pub read : AreRead (terms_of base) c ⊎ AreRead (conditions_of base) c
  pub given : is_given declared c ≡ false
  pub undefined : definition_of base c ≡ None

-- ---- a check that never stops

-- the observation reports the label, as the cause of a stop or among the notes
abbrev pub ReportsEnding : Observation → Label → Type 0
ReportsEnding (stopped cause) label = (cause ≡ failed label) ⊎ (cause ≡ over label)
ReportsEnding (values notes vs) label = Contains notes label

-- Whatever values the inputs have, the check's label isn't reported.
abbrev pub IsNeverStopping : Base → List Coded → (List Value → Observation) → ℕ → Type 0
IsNeverStopping base inputs observe k =
    (label : Label) → label_of_check base k ≡ Some label → (given : List Value) → AreValuesOf inputs given → ReportsEnding (observe given) label → ⊥

-- ---- an input that isn't used

-- the lists differ at most in the value with this number
abbrev pub AreEqualBut : ℕ → List Value → List Value → Type 0
AreEqualBut n given other = (m : ℕ) → m ≢ n → slice_index_or given m Undef ≡ slice_index_or other m Undef

-- Whatever values the inputs have, another value of this one doesn't change the observation.
abbrev pub IsUnused : List Coded → (List Value → Observation) → ℕ → Type 0
IsUnused inputs observe n =
    (given other : List Value) → AreValuesOf inputs given → AreValuesOf inputs other → AreEqualBut n given other → observe given ≡ observe other

-- ---- findings

-- A finding is true of the declared rules and of the observations of households, with these inputs.
abbrev pub IsTrueFinding : Declared → Base → List Coded → (List Value → Observation) → Finding → Type 0
IsTrueFinding declared base inputs observe (NeverDefined c) = IsNeverDefined declared base c
IsTrueFinding declared base inputs observe (NeverStops k) = IsNeverStopping base inputs observe k
IsTrueFinding declared base inputs observe (Unused n) = IsUnused inputs observe n
