-- The values of a session stay ones that its inputs may have.
use Rattle.std.proofs.Common.{◌≡◌, ℕ, ℤ, zero, suc, List, [], ◌∷◌, set, Bool, true, false, cond, Option, None, Some, Result, Ok, Err, refl}
use Rattle.m_fixed.specs.declared.amount.Value.{Value}
use Rattle.m_fixed.specs.declared.amount.Value.TheVariants.{Undef, Num}
use Rattle.m_fixed.specs.declared.read.AmountFault.{AmountFault}
use Rattle.m_fixed.specs.Text.{text_value, amount_read}
use Rattle.m_names.specs.Names.{index_of}
use Rattle.observables.specs.declared.inputs.Coded.{Coded}
use Rattle.observables.specs.Inputs.{AreValuesOf, IsValueOf, codes_of}
use Rattle.observables.proofs.InputLemmas.{read_amount}
use Rattle.household.specs.Household.{input_type, is_fitting}
use Rattle.household_session.specs.declared.fault.EditFault.TheVariants.{NotOfType}
use Rattle.household_session.specs.Commands.{SessionCommand, no_words, sets, clears, shows, too_long, bad}
use Rattle.household_session.specs.Replies.{command_values}
use Rattle.household_session.specs.Sessions.{Showing, parsed_clear, parsed_set, values_edited}

-- one value is replaced by one that its input may have
pub value_set : (inputs : List Coded) (values : List Value) (number : ℕ) (v : Value) → AreValuesOf inputs values → IsValueOf (input_type inputs number) v
    → AreValuesOf inputs (set values number v)
value_set [] [] number v all h = all
value_set [] (w ∷ values) number v all h = absurd all
value_set (input ∷ inputs) [] number v all h = absurd all
value_set (input ∷ inputs) (w ∷ values) zero v all h = (h, all.1)
value_set (input ∷ inputs) (w ∷ values) (suc number) v all h = (all.0, value_set inputs values number v all.1 h)

set_keeps : (inputs : List Coded) (values : List Value) (found : Option ℕ) (stated : Option ℤ) → AreValuesOf inputs values
    → AreValuesOf inputs (values_edited values (parsed_set inputs found (amount_read stated)))
set_keeps inputs values found stated all = by found (amount_read stated) refl
  where
    fits : (input : ℕ) (z : ℤ) (b : Bool) → amount_read stated ≡ Ok z → is_fitting inputs (input, z) ≡ b
        → AreValuesOf inputs (values_edited values (cond b (Ok (input, Num z)) (Err NotOfType)))
    fits input z true is e = value_set inputs values input (Num z) all (read_amount stated z is, e)
    fits input z false is e = all

    by : (number : Option ℕ) (read : Result ℤ AmountFault) → amount_read stated ≡ read
        → AreValuesOf inputs (values_edited values (parsed_set inputs number read))
    by None read is = all
    by (Some input) (Err why) is = all
    by (Some input) (Ok z) is = fits input z (is_fitting inputs (input, z)) is refl

clear_keeps : (inputs : List Coded) (values : List Value) (found : Option ℕ) → AreValuesOf inputs values
    → AreValuesOf inputs (values_edited values (parsed_clear found))
clear_keeps inputs values None all = all
clear_keeps inputs values (Some input) all = value_set inputs values input Undef all tt

pub command_keeps : (showing : Showing) (values : List Value) (command : SessionCommand) → AreValuesOf showing.inputs values
    → AreValuesOf showing.inputs (command_values showing values command)
command_keeps showing values no_words all = all
command_keeps showing values (sets code amount) all = set_keeps showing.inputs values (index_of code (codes_of showing.inputs)) (text_value amount) all
command_keeps showing values (clears code) all = clear_keeps showing.inputs values (index_of code (codes_of showing.inputs)) all
command_keeps showing values shows all = all
command_keeps showing values too_long all = all
command_keeps showing values bad all = all
