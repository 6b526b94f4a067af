-- The result of compiling a source.
use Rattle.std.specs.Prelude.{◌≡◌, ℕ, ◌<◌, ◌≤◌, true, List, Option, drop, length, map, take, Some}
use Rattle.std.specs.List.{AllByRecursion}
use Rattle.m_fixed.specs.declared.amount.Value.{Value}
use Rattle.m_names.specs.Names.{AreDistinct}
use Rattle.m_places.specs.declared.source.Source.{Source}
use Rattle.m_symbols.specs.Declarations.{Declared}
use Rattle.micro_m.specs.declared.base.Base.{Base}
use Rattle.micro_m.specs.Bases.{is_among}
use Rattle.observables.specs.declared.face.Face.{Face}
use Rattle.observables.specs.declared.face.FaceLabel.TheVariants.{Verif}
use Rattle.observables.specs.Answers.{observation}
use Rattle.observables.specs.Inputs.{AreValuesOf, codes_of}
use Rattle.observables.specs.Outputs.{names_of, notes_of}
use Rattle.flat_code.specs.declared.program.Flat.{Flat}
use Rattle.flat_code.specs.Faces.{IsFaceOf}
use Rattle.flat_code.specs.Runs.{IsFlat, flat_run}
use Rattle.flat_code.specs.Tidy.{IsTidy}
use Rattle.register_alloc.specs.Allocation.{IsAllocation}
use Rattle.driver_core.specs.declared.program.Core.{Core}
use Rattle.driver_core.specs.Inputs.{inputs_declared}
use Rattle.m_symbols.specs.Cells.{cell_name}
use Rattle.mpp_inline.specs.Inlined.{IsDriverLine, most_nodes}
use Rattle.mpp_inline.specs.Labelling.{labelling_of}
use Rattle.code_file.specs.Printable.{IsPrintable}
use Rattle.code_file.specs.declared.loaded.Loaded.{Loaded}
use Rattle.m_compile.specs.declared.compiling.Program.{Program}
use Rattle.m_compile.specs.Sources.{IsValid, running}
use Rattle.m_compile.specs.Answers.{answer_to}

-- a program that can be run: the face is its face, the codes of inputs are distinct, and its nodes
-- are within the limit
pub record IsRunnable (face : Face) (flat : Flat) : Type 0 where
  pub valid : IsFlat flat
  pub shown : IsFaceOf face flat
  pub distinct : AreDistinct (codes_of face.inputs)
  pub nodes_fit : length flat.nodes ≤ most_nodes

-- The source is valid and compiles to this program. For every list of values that the inputs may have, the answer of
-- the tidy program, read through its face, is that of the source. The face has the inputs with their types; the labels
-- of the base's checks, then those of driver lines; and as outputs the notes, each of a check of the base, then the
-- names of the requested cells. Which labels and notes there are, and in which order, is determined by the driver and
-- the base; each check of the tidy program has the label of one of theirs, and there are no more. A code file can
-- represent the face.
pub record IsProgramOf (source : Source) (program : Program) : Type 0 where
  pub declared : Declared
  pub base : Base
  pub written : Option Core
  pub requests : List ℕ
  pub valid : IsValid source declared base written requests
  pub runnable : IsRunnable program.face program.tidy
  pub tidy : IsTidy program.tidy
  pub inputs : program.face.inputs ≡ inputs_declared declared
  pub names : names_of program.face.outputs ≡ map (cell_name declared) requests
  pub notes : AllByRecursion (λ number. number < length base.labels) (notes_of program.face.outputs)
  pub first_labels : take (length base.labels) program.face.labels ≡ map Verif base.labels
  pub further_labels : AllByRecursion IsDriverLine (drop (length base.labels) program.face.labels)
  pub labels_are : program.face.labels ≡ (labelling_of (running written requests declared) base).labels
  pub notes_are : notes_of program.face.outputs ≡ (labelling_of (running written requests declared) base).notes
  pub checks_among : AllByRecursion (λ check. is_among check.label (labelling_of (running written requests declared) base).checks ≡ true)
      program.tidy.checks
  pub few_checks : length program.tidy.checks ≤ length (labelling_of (running written requests declared) base).checks
  pub printable : IsPrintable program.face
  pub answers : (inputs : List Value) → AreValuesOf program.face.inputs inputs
      → observation program.face.labels (notes_of program.face.outputs) (flat_run program.tidy inputs) ≡ Some
      (answer_to declared base written requests inputs)

-- The source compiles to this code, by way of some tidy program with the same face. The code implements the tidy
-- program, with one label for each of the face, and uses the registers and slots of its width.
pub record IsCompiled (source : Source) (loaded : Loaded) : Type 0 where
  pub tidy : Flat
  pub program : IsProgramOf source (record { face = loaded.face; tidy = tidy })
  pub allocated : IsAllocation tidy (length loaded.face.labels) loaded.code
