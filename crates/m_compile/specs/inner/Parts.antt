-- The last steps alone: from rules in an order and requests to a program with its face.
use Rattle.std.specs.Prelude.{◌≡◌, ℕ, ◌+◌, ◌<◌, ◌≤◌, ◌^◌, true, List, Option, length, map, take, drop, Some, Ok, Err}
use Rattle.std.specs.List.{AllByRecursion}
use Rattle.m_places.specs.declared.limits.TheConstants.{DRIVER_WEIGHT, REQUESTS}
use Rattle.m_fixed.specs.declared.amount.Value.{Value}
use Rattle.m_places.specs.declared.source.Source.{Source}
use Rattle.m_symbols.specs.Declarations.{Declared}
use Rattle.micro_m.specs.declared.base.Base.{Base}
use Rattle.micro_m.specs.Bases.{is_among}
use Rattle.observables.specs.declared.face.Face.{Face}
use Rattle.observables.specs.declared.face.FaceLabel.TheVariants.{Verif}
use Rattle.flat_code.specs.Faces.{IsFaceOf}
use Rattle.flat_code.specs.Runs.{IsFlat, flat_run}
use Rattle.flat_code.specs.Tidy.{IsTidy}
use Rattle.observables.specs.Answers.{observation}
use Rattle.observables.specs.Inputs.{AreValuesOf}
use Rattle.observables.specs.Outputs.{names_of, notes_of}
use Rattle.register_alloc.specs.Allocation.{IsSmall}
use Rattle.driver_core.specs.declared.program.Core.{Core}
use Rattle.driver_core.specs.Answers.{answer_of}
use Rattle.driver_core.specs.Inputs.{inputs_declared}
use Rattle.driver_core.specs.Weights.{weight_of}
use Rattle.m_symbols.specs.Cells.{cell_name}
use Rattle.m_symbols.specs.declared.request_fault.RequestFault.{RequestFault}
use Rattle.m_symbols.specs.Requests.{parsed_requests}
use Rattle.mpp_inline.specs.Inlined.{most_nodes, IsDriverLine}
use Rattle.mpp_inline.specs.Labelling.{labelling_of}
use Rattle.mpp_lexer.specs.declared.fault.DriverFault.{DriverFault}
use Rattle.mpp_parser.specs.declared.command.Driver.{Driver}
use Rattle.mpp_parser.specs.Faults.{IsDriver, IsFault}
use Rattle.mpp_core.specs.declared.fault.CoreFault.{CoreFault}
use Rattle.mpp_core.specs.Cores.{IsCoreFault}
use Rattle.m_compile.specs.declared.compiling.Program.{Program}
use Rattle.m_compile.specs.declared.fault.SourceFault.{SourceFault}
use Rattle.m_compile.specs.declared.fault.SourceFault.TheVariants.{Driver as DriverIs, Core as CoreIs, Requests, DriverTooLarge}
use Rattle.m_compile.specs.Sources.{IsWritten, running}
use Rattle.m_compile.specs.Faults.{observation_weight}
use Rattle.m_compile.specs.Compiled.{IsProgramOf}

-- The fault of a driver over declarations: one of syntax, or else of names. No driver has no fault.
pub data IsDriverFault (declared : Declared) : Option (List ℕ) → SourceFault → Type 0 where
  of_lines : {bytes : List ℕ} {fault : DriverFault} → IsFault bytes fault → IsDriverFault declared (Some bytes) (DriverIs fault)
  of_names : {bytes : List ℕ} {fault : CoreFault} (driver : Driver) → IsDriver bytes driver → IsCoreFault driver declared fault
      → IsDriverFault declared (Some bytes) (CoreIs fault)

-- over these declarations this driver runs, and these cells are requested
pub record AreRequests (declared : Declared) (source : Source) (core : Core) (requests : List ℕ) : Type 0 where
  pub written : Option Core
  pub driven : IsWritten declared source.driver written
  pub requested : parsed_requests source.requests declared ≡ Ok requests
  pub runs : core ≡ running written requests declared

-- The fault of a source's driver, or else that of its requests.
pub data IsRequestsFault (declared : Declared) (source : Source) : SourceFault → Type 0 where
  in_driver : {fault : SourceFault} → IsDriverFault declared source.driver fault → IsRequestsFault declared source fault
  in_requests : {written : Option Core} {fault : RequestFault} → IsWritten declared source.driver written → parsed_requests source.requests declared ≡ Err fault
      → IsRequestsFault declared source (Requests fault)

-- the program of a driver over rules in an order, for these requested cells
pub record IsProgramBy (declared : Declared) (base : Base) (core : Core) (requests : List ℕ) (program : Program) : Type 0 where
  pub light : weight_of core base ≤ DRIVER_WEIGHT
  pub valid : IsFlat program.tidy
  pub tidy : IsTidy program.tidy
  pub shown : IsFaceOf program.face program.tidy
  pub inputs : program.face.inputs ≡ inputs_declared declared
  pub names : names_of program.face.outputs ≡ map (cell_name declared) requests
  pub notes : AllByRecursion (λ number. number < length base.labels) (notes_of program.face.outputs)
  pub first_labels : take (length base.labels) program.face.labels ≡ map Verif base.labels
  pub further_labels : AllByRecursion IsDriverLine (drop (length base.labels) program.face.labels)
  pub labels_are : program.face.labels ≡ (labelling_of core base).labels
  pub notes_are : notes_of program.face.outputs ≡ (labelling_of core base).notes
  pub checks_among : AllByRecursion (λ check. is_among check.label (labelling_of core base).checks ≡ true) program.tidy.checks
  pub few_checks : length program.tidy.checks ≤ length (labelling_of core base).checks
  pub nodes_fit : length program.tidy.nodes ≤ most_nodes
  pub checks_fit : length program.tidy.checks ≤ most_nodes
  pub labels_fit : length program.face.labels ≤ length base.labels + most_nodes
  pub few_outputs : length program.face.outputs ≤ most_nodes + REQUESTS
  pub answers : (inputs : List Value) → AreValuesOf program.face.inputs inputs
      → observation program.face.labels (notes_of program.face.outputs) (flat_run program.tidy inputs) ≡ Some (answer_of core base declared requests inputs)

-- A compiled source whose program is small enough for register code.
pub record IsReady (source : Source) (program : Program) : Type 0 where
  pub few_labels : length program.face.labels < 2 ^ 32
  pub small : IsSmall program.tidy (length program.face.labels)
  pub compiled : IsProgramOf source program

-- a driver whose weight exceeds the limit
pub data IsHeavy (core : Core) (base : Base) : SourceFault → Type 0 where
  heavy : DRIVER_WEIGHT < weight_of core base → IsHeavy core base (DriverTooLarge (observation_weight core base))
