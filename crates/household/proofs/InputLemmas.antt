-- The inputs of pairs are known, and none occurs twice. The amounts are of their types.
use Rattle.std.proofs.Common.{◌≡◌, ◌≢◌, ℕ, ℤ, ◌<◌, List, [], ◌∷◌, ◌++◌, length, Option, Some, None, Result, Ok, Err, Bool, true, false, cond, eqb, leb, refl}
use Rattle.std.proofs.Common.{sym, subst, ap, ◌∙◌}
use Rattle.std.proofs.lemmas.Bool.{eqb-false, or_parts}
use Rattle.std.proofs.lemmas.List.{length-map, map_push}
use Rattle.std.specs.List.{AllByRecursion}
use Rattle.m_places.specs.declared.limits.TheConstants.{ROWS}
use Rattle.m_fixed.specs.declared.read.AmountFault.{AmountFault}
use Rattle.m_fixed.specs.Amounts.{IsAmount}
use Rattle.m_fixed.specs.Text.{text_value, amount_read}
use Rattle.m_names.specs.Names.{index_of}
use Rattle.m_names.proofs.NameLemmas.{index_of-some}
use Rattle.observables.specs.declared.inputs.Coded.{Coded}
use Rattle.observables.specs.Inputs.{codes_of}
use Rattle.observables.proofs.InputLemmas.{read_amount}
use Rattle.household.specs.declared.fault.HouseholdFault.TheVariants.{NotOfType}
use Rattle.household.specs.InTurn.{in_turn, if_read}
use Rattle.household.specs.Household.{AreDifferent, AreInputs, AreOfTypes, fitting_pair, inputs_of, is_fitting, is_input_among, line_behind, new_pair, pair_of}
use Rattle.household.specs.Household.{parsed_pair, row_of}

pub AllByRecursion-push : {X : Type 0} (P : X → Type 0) (xs : List X) (x : X) → AllByRecursion P xs → P x → AllByRecursion P (xs ++ x ∷ [])
AllByRecursion-push P [] x h p = (p, tt)
AllByRecursion-push P (y ∷ ys) x h p = (h.0, AllByRecursion-push P ys x h.1 p)

pub AreDifferent-push : (ms : List ℕ) (n : ℕ) → is_input_among n ms ≡ false → AreDifferent ms → AreDifferent (ms ++ n ∷ [])
AreDifferent-push [] n e h = (tt, tt)
AreDifferent-push (m ∷ ms) n e h =
    let parts = or_parts (eqb m n) (is_input_among n ms) e in
    (AllByRecursion-push (λ other. other ≢ m) ms n h.0 (λ same. eqb-false m n parts.0 (sym same)), AreDifferent-push ms n parts.1 h.1)

pub inputs_of-push : (pairs : List (ℕ × ℤ)) (pair : ℕ × ℤ) → inputs_of (pairs ++ pair ∷ []) ≡ inputs_of pairs ++ pair.0 ∷ []
inputs_of-push pairs pair = map_push (λ p. p.0) pairs pair

-- one more pair, of a known input that didn't occur
AreInputs-push : (n : ℕ) (pairs : List (ℕ × ℤ)) (pair : ℕ × ℤ) → AreInputs n pairs → pair.0 < n → is_input_among pair.0 (inputs_of pairs) ≡ false
    → AreInputs n (pairs ++ pair ∷ [])
AreInputs-push n pairs pair h l e = record {
  known = subst (AllByRecursion (λ input. input < n)) (sym (inputs_of-push pairs pair))
      (AllByRecursion-push (λ input. input < n) (inputs_of pairs) pair.0 h.known l);
  once = subst AreDifferent (sym (inputs_of-push pairs pair)) (AreDifferent-push (inputs_of pairs) pair.0 e h.once);
}

-- a conditional that is no error is its other branch
pub other_than_error : {T E : Type 0} (b : Bool) (e : E) (r : Result T E) (t : T) → cond b (Err e) r ≡ Ok t → (b ≡ false) × (r ≡ Ok t)
other_than_error true e r t h = cc
other_than_error false e r t h = (refl, h)

pub read_before : {B C F : Type 0} (next : B → Result C F) (r : Result B F) (c : C) → if_read next r ≡ Ok c → (b : B) × (r ≡ Ok b) × (next b ≡ Ok c)
read_before next (Ok b) c h = (b, refl, h)
read_before next (Err e) c h = cc h

-- the same for an error as the first branch
pub if_ok : {T E : Type 0} (b : Bool) (r : Result T E) (e : E) (t : T) → cond b r (Err e) ≡ Ok t → (b ≡ true) × (r ≡ Ok t)
if_ok true r e t h = (refl, h)
if_ok false r e t h = cc h

-- the number of a code is below the number of inputs
pub code_known : (inputs : List Coded) (code : List ℕ) (number : ℕ) → index_of code (codes_of inputs) ≡ Some number → number < length inputs
code_known inputs code number h = subst (λ n. number < n) (length-map inputs (λ (input : Coded). input.code)) (index_of-some code (codes_of inputs) number h).1

-- the input of a pair is known, and its value is an amount
stated_known : (n line : ℕ) (o : Option ℕ) (r : Result ℤ AmountFault) (pair : ℕ × ℤ) → parsed_pair line o r ≡ Ok pair → ((i : ℕ) → o ≡ Some i → i < n)
    → pair.0 < n
stated_known n line None r pair h k = cc h
stated_known n line (Some i) (Err why) pair h k = cc h
stated_known n line (Some i) (Ok z) pair h k = let same : i ≡ pair.0 = cc in subst (λ (j : ℕ). j < n) same (k i refl)

stated_amount : (line : ℕ) (o : Option ℕ) (stated : Option ℤ) (pair : ℕ × ℤ) → parsed_pair line o (amount_read stated) ≡ Ok pair → IsAmount pair.1
stated_amount line o stated pair h = by o (amount_read stated) refl h
  where
    by : (p : Option ℕ) (r : Result ℤ AmountFault) → amount_read stated ≡ r → parsed_pair line p r ≡ Ok pair → IsAmount pair.1
    by None r e g = cc g
    by (Some input) (Err why) e g = cc g
    by (Some input) (Ok z) e g = let same : z ≡ pair.1 = cc in subst IsAmount same (read_amount stated z e)

-- the parts of two fields that are read as a pair of its input's type
pub two_parts : (inputs : List Coded) (line : ℕ) (code amount : List ℕ) (pair : ℕ × ℤ) → pair_of inputs line (code ∷ amount ∷ []) ≡ Ok pair
    → (parsed_pair line (index_of code (codes_of inputs)) (amount_read (text_value amount)) ≡ Ok pair) × (is_fitting inputs pair ≡ true)
two_parts inputs line code amount pair h =
    let r = read_before (fitting_pair inputs line) (parsed_pair line (index_of code (codes_of inputs)) (amount_read (text_value amount))) pair h in
    let f = if_ok (is_fitting inputs r.0) (Ok r.0) (NotOfType line) pair r.2 in
    let same : r.0 ≡ pair = cc f.1 in
    (r.1 ∙ ap Ok same, subst (λ (p : ℕ × ℤ). is_fitting inputs p ≡ true) same f.0)

pair_known : (inputs : List Coded) (line : ℕ) (fields : List (List ℕ)) (pair : ℕ × ℤ) → pair_of inputs line fields ≡ Ok pair → pair.0 < length inputs
pair_known inputs line [] pair h = cc h
pair_known inputs line (code ∷ []) pair h = cc h
pair_known inputs line (code ∷ amount ∷ []) pair h =
    stated_known (length inputs) line (index_of code (codes_of inputs)) (amount_read (text_value amount)) pair (two_parts inputs line code amount pair h).0
    (code_known inputs code)
pair_known inputs line (code ∷ amount ∷ more ∷ rest) pair h = cc h

pair_of_type : (inputs : List Coded) (line : ℕ) (fields : List (List ℕ)) (pair : ℕ × ℤ) → pair_of inputs line fields ≡ Ok pair
    → IsAmount pair.1 × (is_fitting inputs pair ≡ true)
pair_of_type inputs line [] pair h = cc h
pair_of_type inputs line (code ∷ []) pair h = cc h
pair_of_type inputs line (code ∷ amount ∷ []) pair h =
    let parts = two_parts inputs line code amount pair h in
    (stated_amount line (index_of code (codes_of inputs)) (text_value amount) pair parts.0, parts.1)
pair_of_type inputs line (code ∷ amount ∷ more ∷ rest) pair h = cc h

-- the parts of a row that is read
pub row_parts : (inputs : List Coded) (before : List (ℕ × ℤ)) (fields : List (List ℕ)) (pair : ℕ × ℤ) → row_of inputs before fields ≡ Ok pair
    → (leb ROWS (length before) ≡ false) × (pair_of inputs (line_behind (length before)) fields ≡ Ok pair) × (is_input_among pair.0 (inputs_of before) ≡ false)
row_parts inputs before fields pair h =
    let line = line_behind (length before) in
    let a = other_than_error (leb ROWS (length before)) _ (if_read (new_pair line before) (pair_of inputs line fields)) pair h in
    let b = read_before (new_pair line before) (pair_of inputs line fields) pair a.1 in
    let d = other_than_error (is_input_among b.0.0 (inputs_of before)) _ (Ok b.0) pair b.2 in
    let same : b.0 ≡ pair = cc d.1 in
    (a.0, b.1 ∙ ap Ok same, subst (λ (p : ℕ × ℤ). is_input_among p.0 (inputs_of before) ≡ false) same d.0)

-- a property that each read keeps holds of all values
pub turns_keep : {A B F : Type 0} (read : List B → A → Result B F) (Q : List B → Type 0)
    → ((before : List B) (thing : A) (value : B) → Q before → read before thing ≡ Ok value → Q (before ++ value ∷ []))
    → (before : List B) (things : List A) (values : List B) → Q before → in_turn read before things ≡ Ok values → Q values
turns_keep read Q keeps before [] values q h = let same : before ≡ values = cc in subst Q same q
turns_keep read Q keeps before (thing ∷ things) values q h =
    let r = read_before (λ value. in_turn read (before ++ value ∷ []) things) (read before thing) values h in
    turns_keep read Q keeps (before ++ r.0 ∷ []) things values (keeps before thing r.0 q r.1) r.2

-- the pairs of a household have known inputs, and amounts of their types
pub household_inputs : (inputs : List Coded) (rows : List (List (List ℕ))) (pairs : List (ℕ × ℤ)) → in_turn (row_of inputs) [] rows ≡ Ok pairs
    → AreInputs (length inputs) pairs
household_inputs inputs rows pairs h =
    turns_keep (row_of inputs) (AreInputs (length inputs))
    (λ before fields pair q e. let p = row_parts inputs before fields pair e in AreInputs-push (length inputs) before pair q
    (pair_known inputs _ fields pair p.1) p.2)
    [] rows pairs (record { known = tt; once = tt }) h

pub household_types : (inputs : List Coded) (rows : List (List (List ℕ))) (pairs : List (ℕ × ℤ)) → in_turn (row_of inputs) [] rows ≡ Ok pairs
    → AreOfTypes inputs pairs
household_types inputs rows pairs h =
    turns_keep (row_of inputs) (AreOfTypes inputs)
    (λ before fields pair q e. AllByRecursion-push (λ (p : ℕ × ℤ). IsAmount p.1 × (is_fitting inputs p ≡ true)) before pair q
    (pair_of_type inputs _ fields pair (row_parts inputs before fields pair e).1))
    [] rows pairs tt h
