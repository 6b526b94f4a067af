-- The driver over cells that a driver resolves to, the errors of a driver, and the driver of a
-- source without one.
use Rattle.std.specs.Prelude.{◌≡◌, ◌⊎◌, ℕ, List, [], ◌∷◌, Result, Ok, Err, not, codes, length, map, filter, slice_get}
use Rattle.std.specs.Option.{unwrap_or}
use Rattle.m_symbols.specs.Declarations.{Declared, owners_from}
use Rattle.micro_m.specs.Reads.{IsCycle, BeginsWithLeast}
use Rattle.m_symbols.specs.Cells.{owner_of}
use Rattle.mpp_parser.specs.CommandView.{block_of as acts_of}
use Rattle.mpp_parser.specs.declared.command.Driver.{Driver}
use Rattle.driver_core.specs.declared.program.Core.{Core}
use Rattle.driver_core.specs.Actions.{solve}
use Rattle.driver_core.specs.Valid.{Calls, HasNoRing}
use Rattle.mpp_core.specs.Names.{if_resolved, resolved_each, is_a_constant, resolved_names, resolved_main}
use Rattle.mpp_core.specs.Bodies.{resolved_acts}
use Rattle.mpp_core.specs.declared.fault.CoreFault.{CoreFault}
use Rattle.mpp_core.specs.declared.fault.CoreFault.TheVariants.{DriverRecursion}

-- ---- a driver of a source

-- Resolves a driver, or yields the first error of its names: a function name that an earlier
-- function has, then a missing `main`, then the first name, in reading order, that doesn't resolve.
abbrev pub core_of : Driver → Declared → Result Core CoreFault
core_of driver declared =
    if_resolved
    (λ names. if_resolved (λ main. if_resolved
    (λ bodies. Ok (record { cells = length (owners_from 0 declared.variables); names = map (λ f. f.name) driver.functions; bodies = bodies; main = main }))
    (resolved_each (λ f. resolved_acts declared names [] (acts_of f.body)) [] driver.functions)) (resolved_main names))
    (resolved_names [] driver.functions)

-- The driver's names resolve to this driver over cells, and no function reaches itself by calls.
pub record IsCore (driver : Driver) (declared : Declared) (core : Core) : Type 0 where
  pub named : core_of driver declared ≡ Ok core
  pub no_ring : HasNoRing core

-- These are the names of a cycle of calls: distinct functions, each calling the next and the last
-- the first, beginning with the one that is first in the file.
pub record ShowsRing (core : Core) (names : List (List ℕ)) : Type 0 where
  pub functions : List ℕ
  pub ring : IsCycle (Calls core) functions
  pub first : BeginsWithLeast functions
  pub shown : names ≡ map (λ f. unwrap_or (slice_get core.names f) []) functions

-- the error reports a cycle of calls
abbrev pub IsRecursion : Core → CoreFault → Type 0
IsRecursion core (DriverRecursion names) = ShowsRing core names
IsRecursion core _ = ⊥

-- the error of a driver: the first of its names, or a cycle of calls if its names resolve
abbrev pub IsCoreFault : Driver → Declared → CoreFault → Type 0
IsCoreFault driver declared fault = (core_of driver declared ≡ Err fault) ⊎ ((core : Core) × (core_of driver declared ≡ Ok core) × IsRecursion core fault)

-- Equality of errors, up to the choice of the reported cycle.
pub data AreOneCoreFault : CoreFault → CoreFault → Type 0 where
  the_same : {fault other : CoreFault} → fault ≡ other → AreOneCoreFault fault other
  both_rings : {names others : List (List ℕ)} → AreOneCoreFault (DriverRecursion names) (DriverRecursion others)

-- ---- the driver of a source without one

-- the requested cells without those of constants, which no call may receive
abbrev pub received_cells : List ℕ → Declared → List ℕ
received_cells requests declared = filter (λ cell. not (is_a_constant (owner_of declared cell))) requests

-- `main` with one call of the rules on line 1 that receives the requested cells except those of constants
abbrev pub plain_core : List ℕ → Declared → Core
plain_core requests declared =
    record {
      cells = length (owners_from 0 declared.variables);
      names = codes "main" ∷ [];
      bodies = (solve 1 (length (received_cells requests declared)) (received_cells requests declared) ∷ [])
          ∷ [];
      main = 0;
    }
