-- How a line changes the values of the inputs, and the same change in another list of these values.
use Rattle.std.proofs.Common.{◌≡◌, ℕ, ℤ, ◌+◌, ◌<◌, zero, suc, List, [], ◌∷◌, ◌++◌, length, take, set, Bool, true, false, cond, Option, Some, Result, Ok, Err}
use Rattle.std.proofs.Common.{refl, sym, ap, ◌∙◌, subst, arith}
use Rattle.std.proofs.lemmas.Grind.{take-set_at}
use Rattle.std.proofs.lemmas.List.{take_more}
use Rattle.m_fixed.specs.declared.amount.Value.{Value}
use Rattle.m_fixed.specs.declared.amount.Value.TheVariants.{Undef, Num}
use Rattle.m_fixed.specs.declared.read.AmountFault.{AmountFault}
use Rattle.m_fixed.specs.Text.{text_value, amount_read}
use Rattle.observables.specs.declared.inputs.Coded.{Coded}
use Rattle.observables.specs.Inputs.{AreValuesOf}
use Rattle.flat_code.specs.Runs.{value_at}
use Rattle.household.specs.Household.{is_fitting}
use Rattle.household.proofs.InputLemmas.{code_known}
use Rattle.household_session.specs.declared.fault.EditFault.TheVariants.{NotOfType}
use Rattle.household_session.specs.Commands.{SessionCommand, no_words, sets, clears, shows, too_long, bad}
use Rattle.household_session.specs.Replies.{command_values, input_named}
use Rattle.household_session.specs.Sessions.{Showing, parsed_clear, parsed_set, values_edited}

-- writing the value that a place already has
set_same : (l : List Value) (n : ℕ) → set l n (value_at l n) ≡ l
set_same [] n = refl
set_same (x ∷ l) zero = refl
set_same (x ∷ l) (suc n) = ap (λ rest. x ∷ rest) (set_same l n)

-- reading the value just written at a place
set_put : (l : List Value) (n : ℕ) (v : Value) → set l n (value_at (set l n v) n) ≡ set l n v
set_put [] n v = refl
set_put (x ∷ l) zero v = refl
set_put (x ∷ l) (suc n) v = ap (λ rest. x ∷ rest) (set_put l n v)

set_kept : (inputs : List Coded) (values : List Value) (input : ℕ) (read : Result ℤ AmountFault)
    → set values input (value_at (values_edited values (parsed_set inputs (Some input) read)) input) ≡ values_edited values
    (parsed_set inputs (Some input) read)
set_kept inputs values input (Err why) = set_same values input
set_kept inputs values input (Ok z) = by (is_fitting inputs (input, z))
  where
    by : (b : Bool) → set values input (value_at (values_edited values (cond b (Ok (input, Num z)) (Err NotOfType))) input) ≡ values_edited values
        (cond b (Ok (input, Num z)) (Err NotOfType))
    by true = set_put values input (Num z)
    by false = set_same values input

-- the input that a line names gets its value, and no other changes
pub named_edit : (showing : Showing) (values : List Value) (command : SessionCommand) (input : ℕ) → input_named showing.inputs command ≡ Some input
    → set values input (value_at (command_values showing values command) input) ≡ command_values showing values command
named_edit showing values no_words input is = absurd (cc is)
named_edit showing values (sets code amount) input is =
    subst (λ (found : Option ℕ). set values input (value_at (values_edited values (parsed_set showing.inputs found (amount_read (text_value amount)))) input)
    ≡ values_edited values (parsed_set showing.inputs found (amount_read (text_value amount)))) (sym is)
    (set_kept showing.inputs values input (amount_read (text_value amount)))
named_edit showing values (clears code) input is =
    subst (λ (found : Option ℕ). set values input (value_at (values_edited values (parsed_clear found)) input) ≡ values_edited values (parsed_clear found))
    (sym is)
    (set_put values input Undef)
named_edit showing values shows input is = absurd (cc is)
named_edit showing values too_long input is = absurd (cc is)
named_edit showing values bad input is = absurd (cc is)

-- ---- values written one after another

pub put_next : (l values : List Value) (n : ℕ) → n < length l → length l ≡ length values → take n l ≡ take n values
    → take (n + 1) (set l n (value_at values n)) ≡ take (n + 1) values
put_next l values n few same is =
    take-set_at l n (n + 1) (value_at values n) refl few ∙ ap (λ front. front ++ value_at values n ∷ []) is
    ∙ sym (take_more values n Undef (omega (arith, few, same)))

-- each input has a value
pub as_many : (inputs : List Coded) (values : List Value) → AreValuesOf inputs values → length inputs ≡ length values
as_many [] [] all = refl
as_many [] (v ∷ values) all = absurd all
as_many (input ∷ inputs) [] all = absurd all
as_many (input ∷ inputs) (v ∷ values) all = ap (λ n. suc n) (as_many inputs values all.1)

-- a named input is one of the inputs
pub named_within : (inputs : List Coded) (command : SessionCommand) (input : ℕ) → input_named inputs command ≡ Some input → input < length inputs
named_within inputs no_words input is = absurd (cc is)
named_within inputs (sets code amount) input is = code_known inputs code input is
named_within inputs (clears code) input is = code_known inputs code input is
named_within inputs shows input is = absurd (cc is)
named_within inputs too_long input is = absurd (cc is)
named_within inputs bad input is = absurd (cc is)
