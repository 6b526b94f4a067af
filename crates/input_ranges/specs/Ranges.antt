-- The meaning of a file of ranges.
use Rattle.std.specs.Prelude.{ℕ, ℤ, pos, ◌+◌, ◌==◌, Bool, true, false, ◌&&◌, nat_le, int_le, List, [], ◌∷◌, length, map, Option, Some, None, Result, Ok, Err}
use Rattle.std.specs.Prelude.{codes, if◌then◌else◌}
use Rattle.std.specs.Str.{bytes_eq}
use Rattle.m_places.specs.declared.limits.TheConstants.{ROWS}
use Rattle.m_fixed.specs.Amounts.{unit}
use Rattle.m_fixed.specs.Text.{text_value, amount_read}
use Rattle.m_fixed.specs.declared.read.AmountFault.{AmountFault}
use Rattle.m_names.specs.Names.{index_of}
use Rattle.observables.specs.declared.inputs.Coded.{Coded}
use Rattle.observables.specs.declared.inputs.InputType.{InputType}
use Rattle.observables.specs.declared.inputs.InputType.TheVariants.{Any, Whole, Truth}
use Rattle.observables.specs.Inputs.{codes_of, is_of_type}
use Rattle.definedness.specs.Facts.{Possible}
use Rattle.definedness.specs.Ranges.{lowest_amount, highest_amount}
use Rattle.household.specs.declared.fault.HouseholdFault.{HouseholdFault}
use Rattle.household.specs.declared.fault.HouseholdFault.TheVariants.{BadHeader, TooManyRows, BadRow, UnknownCode, BadAmount, NotOfType, CodeTwice}
use Rattle.household.specs.InTurn.{if_read, in_turn}
use Rattle.household.specs.Records.{records_of}
use Rattle.household.specs.Household.{input_type, is_input_among, line_behind}
use Rattle.input_ranges.specs.declared.given.Given.{Given}
use Rattle.input_ranges.specs.declared.given.Given.TheVariants.{Yes, No, Maybe}
use Rattle.input_ranges.specs.declared.ranges.InputRange.{InputRange}

-- ---- possible values of an input

-- the least and the greatest amount of a type
abbrev pub type_range : InputType → ℤ × ℤ
type_range Any = (lowest_amount, highest_amount)
type_range Whole = (lowest_amount, highest_amount)
type_range Truth = (pos 0, pos unit)

-- the amounts from the first to the second, optionally with undefined
abbrev pub amounts_of : Bool → ℤ × ℤ → Possible
amounts_of undef range = record { undef = undef; over = false; range = Some range }

-- undefined alone
abbrev pub nothing : Possible
nothing = record { undef = true; over = false; range = None }

-- Of an input without a record: undefined, or any amount of its type. A `BOOLEEN` is undefined, or
-- from 0 to 1.
abbrev pub type_fact : InputType → Possible
type_fact kind = amounts_of true (type_range kind)

-- the same of each input
abbrev pub type_facts : List Coded → List Possible
type_facts inputs = map (λ input. type_fact input.kind) inputs

-- ---- a record

-- the meaning of a record's word: the input has an amount, is undefined, or either
abbrev pub given_of : List ℕ → Option Given
given_of word =
    if bytes_eq word (codes "yes") then Some Yes
    else if bytes_eq word (codes "no") then Some No
    else if bytes_eq word (codes "maybe") then Some Maybe
    else None

-- whether both bounds are empty
abbrev pub are_empty : List ℕ → List ℕ → Bool
are_empty least greatest = (length least == 0) && (length greatest == 0)

-- the amounts from one to another, if the first isn't greater
abbrev pub in_order : Bool → ℤ × ℤ → Option Possible
in_order undef range = if int_le range.0 range.1 then Some (amounts_of undef range) else None

-- the amounts from one parsed bound to another; none if one of them isn't an amount
abbrev pub from_read : Bool → Result ℤ AmountFault → Result ℤ AmountFault → Option Possible
from_read undef (Ok least) (Ok greatest) = in_order undef (least, greatest)
from_read undef _ _ = None

-- The values within two bounds for an input of a type that may have an amount. If both are empty,
-- any amount of the type, and else those from the first to the second. The bounds are invalid if
-- only one is empty, one isn't an amount, or the first is greater than the second.
abbrev pub parsed_bounds : Bool → InputType → List ℕ → List ℕ → Option Possible
parsed_bounds undef kind least greatest =
    if are_empty least greatest then Some (amounts_of undef (type_range kind)) else from_read undef (amount_read (text_value least))
    (amount_read (text_value greatest))

-- The values of a word and two bounds. With `no` both bounds must be empty.
abbrev pub parsed_possible : InputType → Given → List ℕ → List ℕ → Option Possible
parsed_possible kind Yes least greatest = parsed_bounds false kind least greatest
parsed_possible kind Maybe least greatest = parsed_bounds true kind least greatest
parsed_possible kind No least greatest = if are_empty least greatest then Some nothing else None

-- the same, if the word is one of the three
abbrev pub under_word : InputType → Option Given → List ℕ → List ℕ → Option Possible
under_word kind None least greatest = None
under_word kind (Some given) least greatest = parsed_possible kind given least greatest

-- The possible values of an input of a type by the three fields after its code: `yes`, `0` and
-- `9000` are the amounts from 0 to 9000.
abbrev pub parsed_fact : InputType → List ℕ → List ℕ → List ℕ → Option Possible
parsed_fact kind word least greatest = under_word kind (given_of word) least greatest

-- whether the bounds are amounts of the type
abbrev pub are_typed : InputType → Option (ℤ × ℤ) → Bool
are_typed kind None = true
are_typed kind (Some range) = is_of_type kind range.0 && is_of_type kind range.1

abbrev pub is_typed : InputType → Possible → Bool
is_typed kind possible = are_typed kind possible.range

-- the range of an input, if its bounds are of its type, or else a fault of the record with this
-- number
abbrev pub typed_range : ℕ → InputType → ℕ → Possible → Result InputRange HouseholdFault
typed_range line kind input possible = if is_typed kind possible then Ok (record { input = input; fact = possible }) else Err (NotOfType line)

-- the same, if the fields after the code are valid
abbrev pub fact_range : ℕ → InputType → ℕ → Option Possible → Result InputRange HouseholdFault
fact_range line kind input None = Err (BadAmount line)
fact_range line kind input (Some possible) = typed_range line kind input possible

-- the same, if the code is that of an input
abbrev pub parsed_range : List Coded → ℕ → Option ℕ → List ℕ → List ℕ → List ℕ → Result InputRange HouseholdFault
parsed_range inputs line None word least greatest = Err (UnknownCode line)
parsed_range inputs line (Some input) word least greatest = fact_range line (input_type inputs input) input
    (parsed_fact (input_type inputs input) word least greatest)

-- The range of the fields of the record with this number, alone: if `1AJ` has the number 0, the
-- fields `1AJ`, `yes`, `0` and `9000` are the amounts from 0 to 9000 of input 0.
abbrev pub range_of : List Coded → ℕ → List (List ℕ) → Result InputRange HouseholdFault
range_of inputs line (code ∷ word ∷ least ∷ greatest ∷ []) = parsed_range inputs line (index_of code (codes_of inputs)) word least greatest
range_of inputs line _ = Err (BadRow line)

-- ---- a file

-- the inputs of ranges
abbrev pub inputs_of : List InputRange → List ℕ
inputs_of ranges = map (λ range. range.input) ranges

-- the range, if no earlier range has its input
abbrev pub new_range : ℕ → List InputRange → InputRange → Result InputRange HouseholdFault
new_range line before range = if is_input_among range.input (inputs_of before) then Err (CodeTwice line) else Ok range

-- The range of a row after the rows of these ranges, or its first fault of: too many rows, not four
-- fields, an unknown code, an invalid word or invalid bounds, a bound not of the input's type, a
-- code used before.
abbrev pub row_of : List Coded → List InputRange → List (List ℕ) → Result InputRange HouseholdFault
row_of inputs before fields =
    if nat_le ROWS (length before) then Err TooManyRows
    else if_read (new_range (line_behind (length before)) before) (range_of inputs (line_behind (length before)) fields)

-- whether four fields are `code`, `given`, `least` and `greatest`
abbrev pub are_headings : List ℕ → List ℕ → List ℕ → List ℕ → Bool
are_headings code given least greatest =
    bytes_eq code (codes "code") && bytes_eq given (codes "given") && bytes_eq least (codes "least") && bytes_eq greatest (codes "greatest")

-- whether these fields are the header
abbrev pub is_header : List (List ℕ) → Bool
is_header (code ∷ given ∷ least ∷ greatest ∷ []) = are_headings code given least greatest
is_header _ = false

-- the ranges of a file's records, or their first fault
abbrev pub ranges_read : List Coded → List (List (List ℕ)) → Result (List InputRange) HouseholdFault
ranges_read inputs [] = Err BadHeader
ranges_read inputs (first ∷ rows) = if is_header first then in_turn (row_of inputs) [] rows else Err BadHeader

-- the ranges of a file's bytes, or their first fault
abbrev pub parsed_ranges : List Coded → List ℕ → Result (List InputRange) HouseholdFault
parsed_ranges inputs bytes = ranges_read inputs (records_of bytes)

-- ---- the facts of all inputs

-- the fact of the input with this number and type: that of its first range, or without one that of
-- its type
abbrev pub fact_within : List InputRange → ℕ → InputType → Possible
fact_within [] number kind = type_fact kind
fact_within (range ∷ ranges) number kind = if range.input == number then range.fact else fact_within ranges number kind

-- the same for inputs, the first of which has this number
abbrev pub facts_from : List InputRange → ℕ → List Coded → List Possible
facts_from ranges number [] = []
facts_from ranges number (input ∷ inputs) = fact_within ranges number input.kind ∷ facts_from ranges (number + 1) inputs

-- The possible values of each input with these ranges, in the order of the inputs.
abbrev pub facts_within : List InputRange → List Coded → List Possible
facts_within ranges inputs = facts_from ranges 0 inputs

-- The meaning of the bytes of a file of ranges: the possible values of each input, in order, or the
-- fault for which it is rejected.
abbrev pub ranges_of : List Coded → List ℕ → Result (List Possible) HouseholdFault
ranges_of inputs bytes = if_read (λ ranges. Ok (facts_within ranges inputs)) (parsed_ranges inputs bytes)
