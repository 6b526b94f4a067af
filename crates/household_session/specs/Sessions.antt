-- A session: a household whose amounts are edited, and what it shows.
use Rattle.std.specs.Prelude.{ℕ, ℤ, List, [], ◌∷◌, ◌++◌, codes, slice_set, Option, Some, None, Result, Ok, Err, if◌then◌else◌}
use Rattle.m_text.specs.Pieces.{joined}
use Rattle.m_fixed.specs.declared.amount.Value.{Value}
use Rattle.m_fixed.specs.declared.amount.Value.TheVariants.{Undef, Num}
use Rattle.m_fixed.specs.declared.read.AmountFault.{AmountFault}
use Rattle.m_fixed.specs.Text.{text_value, amount_read}
use Rattle.m_names.specs.Names.{index_of}
use Rattle.observables.specs.declared.face.Face.{Face}
use Rattle.observables.specs.declared.inputs.Coded.{Coded}
use Rattle.observables.specs.Inputs.{codes_of}
use Rattle.flat_code.specs.declared.program.Flat.{Flat}
use Rattle.flat_code.specs.Runs.{flat_run}
use Rattle.household.specs.Household.{is_fitting, values_of}
use Rattle.m_text.specs.Pieces.{new_line}
use Rattle.tax_print.specs.Lines.{answer_lines}
use Rattle.household_session.specs.declared.fault.EditFault.{EditFault}
use Rattle.household_session.specs.declared.fault.EditFault.TheVariants.{UnknownCode, BadAmount, NotOfType}

-- The inputs of a session, and the lines of its answer to values of them, for any program.
pub record Showing : Type 0 where
  pub inputs : List Coded
  pub text : List Value → List ℕ

-- A session as contracts see it: the program, its face, and the current value of each input.
pub record Sitting : Type 0 where
  pub flat : Flat
  pub face : Face
  pub values : List Value

-- the inputs and answers of a session
abbrev pub showing_of : Sitting → Showing
showing_of sitting = record { inputs = sitting.face.inputs; text = λ values. answer_lines sitting.face (flat_run sitting.flat values) }

-- the session that begins with these pairs of an input and an amount
abbrev pub begun : Flat → Face → List (ℕ × ℤ) → Sitting
begun flat face pairs = record { flat = flat; face = face; values = values_of pairs flat.inputs }

-- ---- edits

-- the edit of a code's input and a parsed amount
abbrev pub parsed_set : List Coded → Option ℕ → Result ℤ AmountFault → Result (ℕ × Value) EditFault
parsed_set inputs None amount = Err UnknownCode
parsed_set inputs (Some input) (Err why) = Err BadAmount
parsed_set inputs (Some input) (Ok millionths) = if is_fitting inputs (input, millionths) then Ok (input, Num millionths) else Err NotOfType

-- The edit that sets the input with this code to this amount: an input's number and its new value,
-- or why it is rejected. An unknown code is reported before a bad amount, and that before an amount
-- that isn't of the input's type. If `1AJ` has the number 0 and accepts every amount, `1AJ` and
-- `2.5` are the edit of input 0 to 2500000 millionths.
abbrev pub set_of : List Coded → List ℕ → List ℕ → Result (ℕ × Value) EditFault
set_of inputs code amount = parsed_set inputs (index_of code (codes_of inputs)) (amount_read (text_value amount))

-- the edit that clears the input with this number, if there is one
abbrev pub parsed_clear : Option ℕ → Result (ℕ × Value) EditFault
parsed_clear None = Err UnknownCode
parsed_clear (Some input) = Ok (input, Undef)

-- The edit that clears the input with this code: it becomes undefined, whatever it was.
abbrev pub clear_of : List Coded → List ℕ → Result (ℕ × Value) EditFault
clear_of inputs code = parsed_clear (index_of code (codes_of inputs))

-- the values after an edit; a rejected one changes nothing
abbrev pub values_edited : List Value → Result (ℕ × Value) EditFault → List Value
values_edited values (Ok edit) = slice_set values edit.0 edit.1
values_edited values (Err fault) = values

-- the session after an edit
abbrev pub edited : Sitting → Result (ℕ × Value) EditFault → Sitting
edited sitting edit = record sitting { values = values_edited sitting.values edit }

-- the result of an edit
abbrev pub answered : Result (ℕ × Value) EditFault → Result (Unit {0}) EditFault
answered (Ok edit) = Ok tt
answered (Err fault) = Err fault

-- ---- shows

-- these bytes with a line feed
abbrev pub line : List ℕ → List ℕ
line bytes = joined (bytes ∷ new_line ∷ [])

-- The text of a show for these values of the inputs: the lines of the answer, then a line with a
-- point.
abbrev pub shown : Showing → List Value → List ℕ
shown showing values = showing.text values ++ line (codes ".")
