-- Valid files of ranges, and rejected ones, by their records.
use Rattle.std.specs.Prelude.{◌≡◌, ℕ, ◌≤◌, true, List, [], ◌∷◌, length, Some}
use Rattle.std.specs.List.{AllZip}
use Rattle.m_places.specs.declared.limits.TheConstants.{ROWS}
use Rattle.m_names.specs.Names.{index_of}
use Rattle.observables.specs.declared.inputs.Coded.{Coded}
use Rattle.observables.specs.Inputs.{codes_of}
use Rattle.definedness.specs.Facts.{Possible}
use Rattle.household.specs.declared.fault.HouseholdFault.{HouseholdFault}
use Rattle.household.specs.declared.fault.HouseholdFault.TheVariants.{BadHeader}
use Rattle.household.specs.InTurn.{IsFirstFault}
use Rattle.household.specs.Records.{records_of}
use Rattle.household.specs.Household.{AreDifferent, input_type}
use Rattle.household.specs.Refusals.{LacksHeader}
use Rattle.input_ranges.specs.Ranges.{parsed_fact, facts_within, inputs_of, is_header, is_typed, row_of}
use Rattle.input_ranges.specs.declared.ranges.InputRange.{InputRange}

-- A row alone: the code of an input, and three valid fields with bounds of its type.
pub record IsRangeRow (inputs : List Coded) (fields : List (List ℕ)) (range : InputRange) : Type 0 where
  pub code : List ℕ
  pub word : List ℕ
  pub least : List ℕ
  pub greatest : List ℕ
  pub four : fields ≡ code ∷ word ∷ least ∷ greatest ∷ []
  pub known : index_of code (codes_of inputs) ≡ Some range.input
  pub says : parsed_fact (input_type inputs range.input) word least greatest ≡ Some range.fact
  pub typed : is_typed (input_type inputs range.input) range.fact ≡ true

-- The bytes allow these values of the inputs: the records are a header and one row for each range,
-- in order; no input occurs twice; the number of rows is within the limit; and each input has the
-- fact of its range, or without one that of its type.
pub record AreRanges (inputs : List Coded) (bytes : List ℕ) (given : List Possible) : Type 0 where
  pub first : List (List ℕ)
  pub rows : List (List (List ℕ))
  pub ranges : List InputRange
  pub records : records_of bytes ≡ first ∷ rows
  pub header : is_header first ≡ true
  pub in_rows : AllZip (IsRangeRow inputs) rows ranges
  pub once : AreDifferent (inputs_of ranges)
  pub few : length ranges ≤ ROWS
  pub each : given ≡ facts_within ranges inputs

-- Why the bytes of ranges are rejected: they lack the header; or a row has this fault, and the rows
-- before it have none.
pub data AreRefusedRanges (inputs : List Coded) (bytes : List ℕ) : HouseholdFault → Type 0 where
  no_header : LacksHeader is_header (records_of bytes) → AreRefusedRanges inputs bytes BadHeader
  at_row : {first : List (List ℕ)} {rows : List (List (List ℕ))} {fault : HouseholdFault} → records_of bytes ≡ first ∷ rows → is_header first ≡ true
      → IsFirstFault (row_of inputs) [] rows fault → AreRefusedRanges inputs bytes fault
