-- What the flat program of a driver is, and which drivers are too large to have one.
use Rattle.std.specs.Prelude.{◌≡◌, ℕ, ◌+◌, ◌*◌, ◌<◌, ◌≤◌, min, List, take, drop, map, length, slice_index_or, Some, All}
use Rattle.std.specs.List.{AllByRecursion}
use Rattle.m_fixed.specs.declared.amount.Value.{Value}
use Rattle.m_places.specs.declared.limits.TheConstants.{DRIVER_WEIGHT}
use Rattle.m_symbols.specs.Declarations.{Declared, inputs_from}
use Rattle.micro_m.specs.declared.base.Base.{Base}
use Rattle.observables.specs.declared.face.FaceLabel.{FaceLabel}
use Rattle.observables.specs.declared.face.FaceLabel.TheVariants.{Verif, DriverLine}
use Rattle.flat_code.specs.declared.program.Flat.{Flat}
use Rattle.observables.specs.Answers.{observation}
use Rattle.observables.specs.declared.inputs.Coded.{Coded}
use Rattle.observables.specs.declared.inputs.InputType.{InputType}
use Rattle.observables.specs.declared.inputs.InputType.TheVariants.{Any, Truth}
use Rattle.observables.specs.Inputs.{AreValuesOf}
use Rattle.m_fixed.specs.declared.operator.Op.TheVariants.{And}
use Rattle.flat_code.specs.declared.program.Node.{Node}
use Rattle.flat_code.specs.declared.program.Node.TheVariants.{Input, Lit, Do}
use Rattle.flat_code.specs.Entries.{node_at}
use Rattle.flat_code.specs.Runs.{IsFlat, flat_run}
use Rattle.flat_code.specs.Tidy.{Reads, IsRoot}
use Rattle.driver_core.specs.declared.program.Core.{Core}
use Rattle.driver_core.specs.Answers.{answer_of}
use Rattle.driver_core.specs.Inputs.{inputs_declared}
use Rattle.driver_core.specs.Weights.{weight_of}
use Rattle.mpp_inline.specs.Labelling.{labelling_of}
use Rattle.mpp_inline.specs.declared.fault.InlineFault.{InlineFault}
use Rattle.mpp_inline.specs.declared.fault.InlineFault.TheVariants.{DriverTooLarge, Memory}

-- the limit on nodes, on checks, on notes, and on labels after those of the base
abbrev pub most_nodes : ℕ
most_nodes = 100_000_000

-- a label that names a line of the driver
abbrev pub IsDriverLine : FaceLabel → Type 0
IsDriverLine (Verif label) = ⊥
IsDriverLine (DriverLine line) = Unit {0}

-- a node that is an input of type `Truth`, given the types of the inputs
abbrev pub IsTruthInput : List InputType → Node → Type 0
IsTruthInput kinds (Input n) = slice_index_or kinds n Any ≡ Truth
IsTruthInput kinds (Lit v) = ⊥
IsTruthInput kinds (Do op a b c) = ⊥

-- An input of type `Truth` is read only by an `And` of it with itself, which is undefined, 0 or 1
-- for any value of the input. Neither an output nor a check reads it directly; nor does a note,
-- whose node is an output.
pub record HasTruths (kinds : List InputType) (flat : Flat) : Type 0 where
  pub read : (p x : ℕ) → p < length flat.nodes → Reads (node_at flat.nodes p) x → IsTruthInput kinds (node_at flat.nodes x)
      → node_at flat.nodes p ≡ Do And x x x
  pub rootless : (x : ℕ) → IsRoot flat x → IsTruthInput kinds (node_at flat.nodes x) → ⊥

-- the types of inputs, in order
abbrev pub kinds_of : List Coded → List InputType
kinds_of inputs = map (λ input. input.kind) inputs

-- The flat program of a driver with its labels, and the label number of each note.
pub record IsInlined (core : Core) (base : Base) (declared : Declared) (requests : List ℕ) (flat : Flat) (labels : List FaceLabel) (notes : List ℕ) : Type 0
  where
    -- for all values that the inputs may have, the observation of its run is the driver's answer
    pub answer : (inputs : List Value) → AreValuesOf (inputs_declared declared) inputs
        → observation labels notes (flat_run flat inputs) ≡ Some (answer_of core base declared requests inputs)
    pub flat_program : IsFlat flat
    -- an input of type `Truth` is read only by its `And`
    pub truths : HasTruths (kinds_of (inputs_declared declared)) flat
    -- its inputs are the declared ones; it has an output for each note, then one for each request;
    -- the label of a note belongs to the base
    pub inputs : flat.inputs ≡ length (inputs_from 0 declared.variables)
    pub outputs : length flat.outputs ≡ length notes + length requests
    pub noted : AllByRecursion (λ number. number < length base.labels) notes
    -- the first labels are those of the base, in order; the others are lines of the driver; each
    -- check's label exists
    pub first_labels : take (length base.labels) labels ≡ map Verif base.labels
    pub further_labels : AllByRecursion IsDriverLine (drop (length base.labels) labels)
    pub labelled : All (λ check. check.label < length labels) flat.checks
    -- which labels, checks and notes there are, and in which order
    pub labels_are : labels ≡ (labelling_of core base).labels
    pub checks_are : map (λ check. check.label) flat.checks ≡ (labelling_of core base).checks
    pub notes_are : notes ≡ (labelling_of core base).notes
    -- its size is bounded by the weight of the driver, and by fixed limits
    pub size : length flat.nodes + length flat.checks + length labels + length notes ≤ 3 + length base.labels + 2 * base.cells + 6 * weight_of core base
    pub nodes_fit : length flat.nodes ≤ most_nodes
    pub checks_fit : length flat.checks ≤ most_nodes
    pub notes_fit : length notes ≤ most_nodes
    pub labels_fit : length labels ≤ length base.labels + most_nodes

-- a driver within the limit of weight
abbrev pub HasWeight : Core → Base → Type 0
HasWeight core base = weight_of core base ≤ DRIVER_WEIGHT

-- a driver above the limit, with its weight, saturated at 64 bits
abbrev pub IsTooLarge : Core → Base → InlineFault → Type 0
IsTooLarge core base (DriverTooLarge weight) = (DRIVER_WEIGHT < weight_of core base) × (weight ≡ min (weight_of core base) 18_446_744_073_709_551_615)
IsTooLarge core base Memory = ⊥
