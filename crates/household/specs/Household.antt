-- The meaning of a household's file, and the values that it gives the inputs.
use Rattle.std.specs.Prelude.{◌≡◌, ◌≢◌, ℕ, ◌+◌, ◌<◌, ◌≤◌, ◌==◌, Bool, true, false, nat_le, ◌&&◌, List, [], ◌∷◌, map, length, zero, suc, Option, Some, None}
use Rattle.std.specs.Prelude.{Result, Ok, Err, ℤ, codes, IsTrue, if◌then◌else◌}
use Rattle.std.specs.Str.{bytes_eq}
use Rattle.std.specs.List.{AllByRecursion, AllZip, list_any, range_with_len}
use Rattle.m_places.specs.declared.limits.TheConstants.{ROWS}
use Rattle.m_fixed.specs.declared.amount.Value.{Value}
use Rattle.m_fixed.specs.declared.amount.Value.TheVariants.{Undef, Num}
use Rattle.m_fixed.specs.declared.read.AmountFault.{AmountFault}
use Rattle.m_fixed.specs.Text.{text_value, amount_read}
use Rattle.m_fixed.specs.Amounts.{IsAmount}
use Rattle.m_names.specs.Names.{index_of}
use Rattle.observables.specs.declared.inputs.Coded.{Coded}
use Rattle.observables.specs.declared.inputs.InputType.{InputType}
use Rattle.observables.specs.declared.inputs.InputType.TheVariants.{Any}
use Rattle.observables.specs.Inputs.{codes_of, is_of_type}
use Rattle.household.specs.declared.fault.HouseholdFault.{HouseholdFault}
use Rattle.household.specs.declared.fault.HouseholdFault.TheVariants.{BadHeader, TooManyRows, BadRow, UnknownCode, BadAmount, NotOfType, CodeTwice}
use Rattle.household.specs.InTurn.{if_read, in_turn}
use Rattle.household.specs.Records.{records_of}

-- the inputs of pairs
abbrev pub inputs_of : List (ℕ × ℤ) → List ℕ
inputs_of pairs = map (λ pair. pair.0) pairs

-- whether a number is in a list
abbrev pub is_input_among : ℕ → List ℕ → Bool
is_input_among number numbers = list_any (λ other. other == number) numbers

-- the number of the record after the header, which is record 1, and this many rows
abbrev pub line_behind : ℕ → ℕ
line_behind rows = rows + 2

-- the pair of a code's input and a parsed amount, or a fault of the record with this number
abbrev pub parsed_pair : ℕ → Option ℕ → Result ℤ AmountFault → Result (ℕ × ℤ) HouseholdFault
parsed_pair line None amount = Err (UnknownCode line)
parsed_pair line (Some input) (Err why) = Err (BadAmount line)
parsed_pair line (Some input) (Ok millionths) = Ok (input, millionths)

-- the type of the input with this number; a number without an input accepts every amount
abbrev pub input_type : List Coded → ℕ → InputType
input_type [] number = Any
input_type (input ∷ inputs) zero = input.kind
input_type (input ∷ inputs) (suc number) = input_type inputs number

-- Whether the amount of a pair is of its input's type. If input 0 has the type `Whole`, the pair
-- (0, 3000000) fits, and (0, 2500000) doesn't.
abbrev pub is_fitting : List Coded → ℕ × ℤ → Bool
is_fitting inputs pair = is_of_type (input_type inputs pair.0) pair.1

-- the pair, if its amount is of its input's type, or else a fault of the record with this number
abbrev pub fitting_pair : List Coded → ℕ → ℕ × ℤ → Result (ℕ × ℤ) HouseholdFault
fitting_pair inputs line pair = if is_fitting inputs pair then Ok pair else Err (NotOfType line)

-- The pair of the fields of the record with this number: the code of an input and an amount of its
-- type. `inputs` is in the order of numbers: if `1AJ` has the number 0 and accepts every amount,
-- the fields `1AJ` and `2500.5` denote the pair (0, 2500500000).
abbrev pub pair_of : List Coded → ℕ → List (List ℕ) → Result (ℕ × ℤ) HouseholdFault
pair_of inputs line (code ∷ amount ∷ []) = if_read (fitting_pair inputs line)
    (parsed_pair line (index_of code (codes_of inputs)) (amount_read (text_value amount)))
pair_of inputs line _ = Err (BadRow line)

-- the pair, if no earlier pair has its input
abbrev pub new_pair : ℕ → List (ℕ × ℤ) → ℕ × ℤ → Result (ℕ × ℤ) HouseholdFault
new_pair line before pair = if is_input_among pair.0 (inputs_of before) then Err (CodeTwice line) else Ok pair

-- The pair of a row after the rows of these pairs, or its first fault of: too many rows, not two
-- fields, an unknown code, a bad amount, an amount not of the input's type, a code used before.
abbrev pub row_of : List Coded → List (ℕ × ℤ) → List (List ℕ) → Result (ℕ × ℤ) HouseholdFault
row_of inputs before fields =
    if nat_le ROWS (length before) then Err TooManyRows
    else if_read (new_pair (line_behind (length before)) before) (pair_of inputs (line_behind (length before)) fields)

-- whether these fields are the header of a household: `code` and `amount`
abbrev pub is_header : List (List ℕ) → Bool
is_header (code ∷ amount ∷ []) = bytes_eq code (codes "code") && bytes_eq amount (codes "amount")
is_header _ = false

-- the pairs of a household's records, or their first fault
abbrev pub household_read : List Coded → List (List (List ℕ)) → Result (List (ℕ × ℤ)) HouseholdFault
household_read inputs [] = Err BadHeader
household_read inputs (first ∷ rows) = if is_header first then in_turn (row_of inputs) [] rows else Err BadHeader

-- The meaning of the bytes of a household: its pairs of an input's number and an amount, in the
-- order of the file, or the fault for which it is rejected. If `1AJ` has the number 0,
-- `code,amount` and `1AJ,2500.5` denote the single pair (0, 2500500000); with `1AJ,x` as the second
-- line the result is the bad amount of record 2.
abbrev pub household_of : List Coded → List ℕ → Result (List (ℕ × ℤ)) HouseholdFault
household_of inputs bytes = household_read inputs (records_of bytes)

-- no number occurs twice
abbrev pub AreDifferent : List ℕ → Type 0
AreDifferent [] = Unit {0}
AreDifferent (number ∷ numbers) = AllByRecursion (λ other. other ≢ number) numbers × AreDifferent numbers

-- The inputs of pairs are below a count, and none occurs twice.
pub record AreInputs (inputs : ℕ) (pairs : List (ℕ × ℤ)) : Type 0 where
  pub known : AllByRecursion (λ input. input < inputs) (inputs_of pairs)
  pub once : AreDifferent (inputs_of pairs)

-- The pairs have amounts, each of its input's type.
abbrev pub AreOfTypes : List Coded → List (ℕ × ℤ) → Type 0
AreOfTypes inputs pairs = AllByRecursion (λ pair. IsAmount pair.1 × IsTrue (is_fitting inputs pair)) pairs

-- A row of a household alone: the code of an input and an amount of its type, which are this pair.
pub record IsRow (inputs : List Coded) (fields : List (List ℕ)) (pair : ℕ × ℤ) : Type 0 where
  pub code : List ℕ
  pub amount : List ℕ
  pub two : fields ≡ code ∷ amount ∷ []
  pub known : index_of code (codes_of inputs) ≡ Some pair.0
  pub spelled : amount_read (text_value amount) ≡ Ok pair.1
  pub fits : is_fitting inputs pair ≡ true

-- The bytes are a household with these pairs: the records are a header and one row for each pair,
-- in order; no input occurs twice, and the number of rows is within the limit.
pub record IsHousehold (inputs : List Coded) (bytes : List ℕ) (pairs : List (ℕ × ℤ)) : Type 0 where
  pub first : List (List ℕ)
  pub rows : List (List (List ℕ))
  pub records : records_of bytes ≡ first ∷ rows
  pub header : is_header first ≡ true
  pub in_order : AllZip (IsRow inputs) rows pairs
  pub once : AreDifferent (inputs_of pairs)
  pub few : length pairs ≤ ROWS

-- the value that pairs give an input: the amount of its first pair, or undefined without one
abbrev pub value_at : List (ℕ × ℤ) → ℕ → Value
value_at [] input = Undef
value_at (pair ∷ pairs) input = if pair.0 == input then Num pair.1 else value_at pairs input

-- the values that pairs give a number of inputs, in order: the pair (1, 5) gives three inputs
-- Undef, Num 5 and Undef
abbrev pub values_of : List (ℕ × ℤ) → ℕ → List Value
values_of pairs inputs = map (value_at pairs) (range_with_len 0 inputs)
