-- The driver over cells, from its resolved parts.
use Rattle.std.proofs.Common.{◌≡◌, ℕ, List, [], map, length, Result, Ok, sym, ap, ◌∙◌}
use Rattle.m_symbols.specs.Declarations.{Declared, owners_from}
use Rattle.mpp_parser.specs.CommandView.{block_of as acts_of}
use Rattle.mpp_parser.specs.declared.command.Function.{Function}
use Rattle.mpp_parser.specs.declared.command.Driver.{Driver}
use Rattle.driver_core.specs.declared.program.Core.{Core}
use Rattle.driver_core.specs.Actions.{Action}
use Rattle.mpp_core.specs.declared.fault.CoreFault.{CoreFault}
use Rattle.mpp_core.specs.Names.{if_resolved, resolved_each, resolved_names, resolved_main}
use Rattle.mpp_core.specs.Bodies.{resolved_acts}
use Rattle.mpp_core.specs.Cores.{core_of}

abbrev core_with : Driver → Declared → ℕ → List (List Action) → Core
core_with driver d main bodies =
    record { cells = length (owners_from 0 d.variables); names = map (λ f. f.name) driver.functions; bodies = bodies; main = main }

abbrev bodies_by : Driver → Declared → List (List ℕ) → ℕ → Result Core CoreFault
bodies_by driver d names main = if_resolved (λ bodies. Ok (core_with driver d main bodies))
    (resolved_each (λ f. resolved_acts d names [] (acts_of f.body)) [] driver.functions)

pub assembled : (driver : Driver) (d scope : Declared) (functions : List Function) (names copied : List (List ℕ)) (main cells : ℕ) (bodies : List (List Action))
    → functions ≡ driver.functions → scope ≡ d → resolved_names [] driver.functions ≡ Ok names → resolved_main names ≡ Ok main
    → resolved_each (λ f. resolved_acts scope names [] (acts_of f.body)) [] functions ≡ Ok bodies
    → copied ≡ map (λ f. f.name) functions → cells ≡ length (owners_from 0 d.variables)
    → core_of driver d ≡ Ok (record { cells = cells; names = copied; bodies = bodies; main = main })
assembled driver d scope functions names copied main cells bodies fs s n m b k c =
    let resolved : resolved_each (λ f. resolved_acts d names [] (acts_of f.body)) [] driver.functions ≡ Ok bodies =
    (λ i. resolved_each (λ f. resolved_acts (sym s i) names [] (acts_of f.body)) [] (sym fs i)) ∙ b in
    let named : copied ≡ map (λ f. f.name) driver.functions = k ∙ ap (map (λ (f : Function). f.name)) fs in
    ap (if_resolved (λ names. if_resolved (bodies_by driver d names) (resolved_main names))) n
    ∙ ap (if_resolved (bodies_by driver d names)) m
    ∙ ap (if_resolved (λ bodies. Ok (core_with driver d main bodies))) resolved
    ∙ (λ i. Ok (record { cells = sym c i; names = sym named i; bodies = bodies; main = main }))
