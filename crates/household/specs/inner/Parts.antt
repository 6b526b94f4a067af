-- Reading the rows of a table in parts.
use Rattle.std.specs.Prelude.{◌≡◌, ℕ, ◌+◌, ◌*◌, ◌<◌, List, [], Vec, length, take, get_or, Result, Ok, Err}
use Rattle.std.specs.declared.alloc.Global.{Global}
use Rattle.m_places.specs.Refusals.{Outcome}
use Rattle.observables.specs.declared.inputs.Coded.{Coded}
use Rattle.household.specs.declared.cuts.TheConstants.{BETWEEN}
use Rattle.household.specs.declared.fault.HouseholdFault.{HouseholdFault}
use Rattle.household.specs.declared.fault.HouseholdFault.TheVariants.{Memory}
use Rattle.household.specs.declared.table.Row.{Row}
use Rattle.household.specs.InTurn.{in_turn}
use Rattle.household.specs.Table.{row_behind}
use Rattle.household.specs.inner.Cuts.{IsCutAfter}

-- a row after this many rows and then these
abbrev pub table_row_behind : List Coded → List ℕ → ℕ → List Row → List (List ℕ) → Result Row HouseholdFault
table_row_behind inputs columns more before fields = row_behind inputs columns (more + length before) fields

-- cuts of these records, the first of which has this number
abbrev pub AreCutsFrom : List ℕ → List (List (List ℕ)) → ℕ → List ℕ → Type 0
AreCutsFrom bytes records start cuts = (n d : ℕ) → n < length cuts → IsCutAfter bytes records ((start + n) * BETWEEN) (get_or cuts n d)

-- The result of a worker: the rows of its part of the records, which comes after some others, or
-- their first fault.
abbrev pub SaysPart : List Coded → List ℕ → List (List (List ℕ)) → ℕ → ℕ → Result (Vec Row Global) HouseholdFault → Type 0
SaysPart inputs columns records before size result =
    Outcome Memory result (λ rows. in_turn (table_row_behind inputs columns before) [] (take size records) ≡ Ok rows.items)
    (λ fault. in_turn (table_row_behind inputs columns before) [] (take size records) ≡ Err fault)
