-- The fault of a source: that of its earliest faulty step.
use Rattle.std.specs.Prelude.{◌≡◌, ℕ, ◌<◌, List, Option, Some, Err, Ok, min}
use Rattle.m_places.specs.declared.limits.TheConstants.{DRIVER_WEIGHT}
use Rattle.m_places.specs.declared.source.Source.{Source}
use Rattle.m_places.specs.declared.source.Text.{Text}
use Rattle.m_symbols.specs.Declarations.{Declared}
use Rattle.micro_m.specs.declared.base.Base.{Base}
use Rattle.driver_core.specs.declared.program.Core.{Core}
use Rattle.driver_core.specs.Weights.{weight_of}
use Rattle.m_symbols.specs.declared.request_fault.RequestFault.{RequestFault}
use Rattle.m_symbols.specs.Requests.{parsed_requests}
use Rattle.mpp_lexer.specs.declared.fault.DriverFault.{DriverFault}
use Rattle.mpp_parser.specs.declared.command.Driver.{Driver}
use Rattle.mpp_parser.specs.Faults.{IsDriver, IsFault}
use Rattle.mpp_core.specs.declared.fault.CoreFault.{CoreFault}
use Rattle.mpp_core.specs.declared.fault.CoreFault.TheVariants.{DriverRecursion}
use Rattle.mpp_core.specs.Cores.{IsCoreFault}
use Rattle.rule_base.specs.declared.fault.RuleFault.{RuleFault}
use Rattle.rule_base.specs.declared.fault.RuleFault.TheVariants.{Cycle}
use Rattle.rule_base.specs.Faults.{IsRuleFault}
use Rattle.m_compile.specs.declared.fault.SourceFault.{SourceFault}
use Rattle.m_compile.specs.declared.fault.SourceFault.TheVariants.{Rules, Driver as DriverIs, Core as CoreIs, Requests, DriverTooLarge}
use Rattle.m_compile.specs.Sources.{HasRules, IsWritten, running}

-- the greatest number of 64 bits, which is reported for every greater weight
abbrev pub most_weight : ℕ
most_weight = 18_446_744_073_709_551_615

-- the reported weight of a driver over a base
abbrev pub observation_weight : Core → Base → ℕ
observation_weight core base = min (weight_of core base) most_weight

-- The steps in their order: rule files, driver syntax, driver names, requests, weight. Each fault
-- requires that the earlier steps have none.
pub data IsSourceFault (source : Source) : SourceFault → Type 0 where
  of_rules : {fault : RuleFault} → IsRuleFault source.texts source.application fault → IsSourceFault source (Rules fault)
  of_driver : {declared : Declared} {base : Base} {bytes : List ℕ} {fault : DriverFault} → HasRules source declared base
      → source.driver ≡ Some bytes → IsFault bytes fault → IsSourceFault source (DriverIs fault)
  of_core : {declared : Declared} {base : Base} {bytes : List ℕ} {fault : CoreFault} (driver : Driver) → HasRules source declared base
      → source.driver ≡ Some bytes → IsDriver bytes driver → IsCoreFault driver declared fault → IsSourceFault source (CoreIs fault)
  of_requests : {declared : Declared} {base : Base} {written : Option Core} {fault : RequestFault} → HasRules source declared base
      → IsWritten declared source.driver written → parsed_requests source.requests declared ≡ Err fault → IsSourceFault source (Requests fault)
  of_weight : {declared : Declared} {base : Base} {written : Option Core} {requests : List ℕ} → HasRules source declared base
      → IsWritten declared source.driver written → parsed_requests source.requests declared ≡ Ok requests
      → DRIVER_WEIGHT < weight_of (running written requests declared) base
      → IsSourceFault source (DriverTooLarge (observation_weight (running written requests declared) base))

-- The fault of rule files alone: that of their earliest faulty step.
pub data IsBaseFault (texts : List Text) (application : List ℕ) : SourceFault → Type 0 where
  of_files : {fault : RuleFault} → IsRuleFault texts application fault → IsBaseFault texts application (Rules fault)

-- Two faults are equivalent if they are equal, or if both report a cycle of cells, or both a cycle
-- of functions; any actual cycle may be reported.
pub data AreOneSourceFault : SourceFault → SourceFault → Type 0 where
  the_same : {fault other : SourceFault} → fault ≡ other → AreOneSourceFault fault other
  both_cycles : {names others : List (List ℕ)} → AreOneSourceFault (Rules (Cycle names)) (Rules (Cycle others))
  both_rings : {names others : List (List ℕ)} → AreOneSourceFault (CoreIs (DriverRecursion names)) (CoreIs (DriverRecursion others))
