-- Rejected households and tables, by their records.
use Rattle.std.specs.Prelude.{◌≡◌, ℕ, Bool, true, false, List, [], ◌∷◌, drop, Ok}
use Rattle.observables.specs.declared.inputs.Coded.{Coded}
use Rattle.household.specs.declared.fault.HouseholdFault.{HouseholdFault}
use Rattle.household.specs.declared.fault.HouseholdFault.TheVariants.{BadHeader}
use Rattle.household.specs.InTurn.{in_turn, IsFirstFault}
use Rattle.household.specs.Records.{records_of}
use Rattle.household.specs.Household.{is_header, row_of}
use Rattle.household.specs.Table.{column_of, is_table_header, table_row}

-- there are no records, or the first isn't a header
abbrev pub LacksHeader : (List (List ℕ) → Bool) → List (List (List ℕ)) → Type 0
LacksHeader is_first [] = Unit {0}
LacksHeader is_first (first ∷ rows) = is_first first ≡ false

-- Why the bytes of a household are rejected: they lack the header; or a row has this fault, and the
-- rows before it have none.
pub data IsRefusedHousehold (inputs : List Coded) (bytes : List ℕ) : HouseholdFault → Type 0 where
  no_header : LacksHeader is_header (records_of bytes) → IsRefusedHousehold inputs bytes BadHeader
  at_row : {first : List (List ℕ)} {rows : List (List (List ℕ))} {fault : HouseholdFault} → records_of bytes ≡ first ∷ rows → is_header first ≡ true
      → IsFirstFault (row_of inputs) [] rows fault → IsRefusedHousehold inputs bytes fault

-- Why the bytes of a table are rejected: they lack the header; or a code in the header has this
-- fault, and the codes before it have none; or the header has no fault, a row has this one, and the
-- rows before it have none.
pub data IsRefusedTable (inputs : List Coded) (bytes : List ℕ) : HouseholdFault → Type 0 where
  no_table_header : LacksHeader is_table_header (records_of bytes) → IsRefusedTable inputs bytes BadHeader
  at_column : {first : List (List ℕ)} {rows : List (List (List ℕ))} {fault : HouseholdFault} → records_of bytes ≡ first ∷ rows → is_table_header first ≡ true
      → IsFirstFault (column_of inputs) [] (drop 1 first) fault → IsRefusedTable inputs bytes fault
  at_table_row : {first : List (List ℕ)} {rows : List (List (List ℕ))} {columns : List ℕ} {fault : HouseholdFault} → records_of bytes ≡ first ∷ rows
      → is_table_header first ≡ true
      → in_turn (column_of inputs) [] (drop 1 first) ≡ Ok columns → IsFirstFault (table_row inputs columns) [] rows fault → IsRefusedTable inputs bytes fault
