-- The meaning of a source: its declarations, the base of its rules, its driver, and the requested
-- cells.
use Rattle.std.specs.Prelude.{◌≡◌, ℕ, ◌≤◌, List, Option, Some, None, Ok}
use Rattle.m_places.specs.declared.limits.TheConstants.{DRIVER_WEIGHT}
use Rattle.m_places.specs.declared.source.Source.{Source}
use Rattle.m_symbols.specs.Declarations.{Declared}
use Rattle.micro_m.specs.declared.base.Base.{Base}
use Rattle.micro_m.specs.Reads.{HasNoCycle}
use Rattle.driver_core.specs.declared.program.Core.{Core}
use Rattle.driver_core.specs.Weights.{weight_of}
use Rattle.m_symbols.specs.Requests.{parsed_requests}
use Rattle.mpp_parser.specs.declared.command.Driver.{Driver}
use Rattle.mpp_parser.specs.Faults.{IsDriver}
use Rattle.mpp_core.specs.Cores.{IsCore, plain_core}
use Rattle.rule_base.specs.Base.{IsBaseOf}

-- The rule files of a source have these declarations and this base, which has no cycle.
pub record HasRules (source : Source) (declared : Declared) (base : Base) : Type 0 where
  pub made : IsBaseOf source.texts source.application declared base
  pub no_cycle : HasNoCycle base

-- The source's driver, over the declared cells, or none.
pub data IsWritten (declared : Declared) : Option (List ℕ) → Option Core → Type 0 where
  without : IsWritten declared None None
  by_driver : {bytes : List ℕ} {core : Core} (driver : Driver) → IsDriver bytes driver → IsCore driver declared core
      → IsWritten declared (Some bytes) (Some core)

-- The driver that runs: the source's, or without one a function `main` that calls the rules once
-- and returns the requested cells.
abbrev pub running : Option Core → List ℕ → Declared → Core
running None requests declared = plain_core requests declared
running (Some core) requests declared = core

-- A valid source: no step has a fault, and the weight is within the limit. It has these
-- declarations, this base, this driver and these requested cells.
pub record IsValid (source : Source) (declared : Declared) (base : Base) (written : Option Core) (requests : List ℕ) : Type 0 where
  pub rules : HasRules source declared base
  pub driven : IsWritten declared source.driver written
  pub requested : parsed_requests source.requests declared ≡ Ok requests
  pub light : weight_of (running written requests declared) base ≤ DRIVER_WEIGHT
