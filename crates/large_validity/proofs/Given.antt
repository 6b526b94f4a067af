-- The household of `large N` parses to a pair for each input.
use Rattle.std.proofs.Common.{◌≡◌, ℕ, ℤ, zero, suc, ◌+◌, ◌*◌, ◌%◌, ◌<◌, ◌≤◌, ◌==◌, Bool, true, false, cond, ◌||◌, nat_le, List, [], ◌∷◌, ◌++◌, codes, decimal}
use Rattle.std.proofs.Common.{length, Option, Some, None, Result, Ok, Err, refl, sym, ap, ◌∙◌, subst, append_assoc, append-nil, inl, inr, arith}
use Rattle.std.specs.List.{AllByRecursion}
use Rattle.std.specs.Option.{option_map}
use Rattle.std.specs.Str.{bytes_eq}
use Rattle.std.proofs.lemmas.Bool.{ne_eqb, lt-leb, cases_lt}
use Rattle.std.proofs.lemmas.List.{map-append, length-append}
use Rattle.std.proofs.lemmas.List.Elements.{filter_map-append}
use Rattle.std.proofs.lemmas.List.Folds.{list_any-append}
use Rattle.m_places.specs.declared.place.Place.{Place}
use Rattle.m_fixed.specs.Text.{text_value, amount_read}
use Rattle.m_text.specs.Bytes.{IsDigit}
use Rattle.m_text.specs.Words.{AreDigits}
use Rattle.m_names.specs.Names.{has, index_of}
use Rattle.m_names.proofs.NameLemmas.{or-false, itself}
use Rattle.observables.specs.declared.inputs.Coded.{Coded}
use Rattle.observables.specs.declared.inputs.InputType.TheVariants.{Any}
use Rattle.observables.specs.Inputs.{codes_of, is_of_type}
use Rattle.driver_core.specs.Inputs.{input_declared, inputs_declared}
use Rattle.csv.specs.Machine.{step}
use Rattle.csv.specs.Reading.{default_config, strip_bom}
use Rattle.csv.specs.declared.parser.State.TheVariants as st
use Rattle.csv.specs.declared.parser.Action.TheVariants as act
use Rattle.household.specs.declared.fault.HouseholdFault.TheVariants.{TooManyRows, NotOfType, CodeTwice}
use Rattle.household.specs.InTurn.{if_read, in_turn}
use Rattle.household.specs.Records.{records_of}
use Rattle.household.specs.Reader.{records_from_state}
use Rattle.household.specs.Household.{inputs_of, is_input_among, line_behind, parsed_pair, input_type, is_fitting, fitting_pair, pair_of, new_pair, row_of}
use Rattle.household.specs.Household.{household_read, household_of}
use Rattle.household.proofs.LeftLemmas.{byte_joins, records_are_left}
use Rattle.m_large.specs.Large.{row, rows, household_text}
use Rattle.large_validity.proofs.Numerals.{whole_decimal}
use Rattle.large_validity.proofs.Names.{code_name, codes_until, new_code}
use Rattle.large_validity.proofs.Pieces.{amount, read_amount}
use Rattle.large_validity.proofs.Variables.{variables, input_variable, sum_variable, declared}

-- ---- records

abbrev Record : Type 0
Record = List (List ℕ)

-- the amount of input k, as it is spelled
abbrev pub given : ℕ → List ℕ
given k = decimal ((997 * k) % 5000)

abbrev pub record_of : ℕ → Record
record_of k = code_name k ∷ given k ∷ []

abbrev pub record_list : ℕ → List Record
record_list zero = []
record_list (suc k) = record_list k ++ (record_of k ∷ [])

-- the records from here on, at the start of a record
abbrev read_from : List ℕ → List Record
read_from bytes = records_from_state st.StartRecord [] [] bytes

digit_step : (c : ℕ) → IsDigit c → step default_config st.InField c ≡ (st.InField, act.Copy)
digit_step c h =
    let a : (c == 44) ≡ false = ne_eqb c 44 (λ e. let l = h.0 in omega arith) in
    let b : (c == 13) ≡ false = ne_eqb c 13 (λ e. let l = h.0 in omega arith) in
    let d : (c == 10) ≡ false = ne_eqb c 10 (λ e. let l = h.0 in omega arith) in
    rw (a, b, d) refl

first_step : (c : ℕ) → IsDigit c → step default_config st.StartField c ≡ (st.InField, act.Copy)
first_step c h =
    let e : (c == 34) ≡ false = ne_eqb c 34 (λ e. let l = h.0 in omega arith) in
    let a : (c == 44) ≡ false = ne_eqb c 44 (λ e. let l = h.0 in omega arith) in
    let b : (c == 13) ≡ false = ne_eqb c 13 (λ e. let l = h.0 in omega arith) in
    let d : (c == 10) ≡ false = ne_eqb c 10 (λ e. let l = h.0 in omega arith) in
    rw (e, a, b, d) refl

digits_join : (d : List ℕ) → AllByRecursion IsDigit d → (fields : List (List ℕ)) (field tail : List ℕ)
    → records_from_state st.InField fields field (d ++ tail) ≡ records_from_state st.InField fields (field ++ d) tail
digits_join [] h fields field tail = ap (λ f. records_from_state st.InField fields f tail) (sym (append-nil field))
digits_join (c ∷ d) h fields field tail =
    let s = digit_step c h.0 in
    byte_joins st.InField st.InField act.Copy fields fields field (field ++ c ∷ []) c (d ++ tail) (sym (ap (λ x. x.0) s)) (sym (ap (λ x. x.1) s)) refl refl refl
    ∙ digits_join d h.1 fields (field ++ c ∷ []) tail
    ∙ ap (λ f. records_from_state st.InField fields f tail) (append_assoc field (c ∷ []) d)

field_joins : (d : List ℕ) → AreDigits d → (fields : List (List ℕ)) (tail : List ℕ)
    → records_from_state st.StartField fields [] (d ++ tail) ≡ records_from_state st.InField fields d tail
field_joins [] h fields tail = absurd (h.0 refl)
field_joins (c ∷ d) h fields tail =
    let s = first_step c h.1.0 in
    byte_joins st.StartField st.InField act.Copy fields fields [] (c ∷ []) c (d ++ tail) (sym (ap (λ x. x.0) s)) (sym (ap (λ x. x.1) s)) refl refl refl
    ∙ digits_join d h.1.1 fields (c ∷ []) tail

-- a row: a letter and digits, a comma, digits and a line feed
row_read : (d e : List ℕ) → AllByRecursion IsDigit d → AreDigits e → (tail : List ℕ)
    → read_from (67 ∷ (d ++ (44 ∷ (e ++ (10 ∷ tail))))) ≡ ((67 ∷ d) ∷ e ∷ []) ∷ read_from tail
row_read d e h g tail =
    digits_join d h [] (67 ∷ []) (44 ∷ (e ++ (10 ∷ tail)))
    ∙ field_joins e g ((67 ∷ d) ∷ []) (10 ∷ tail)

few_given : (k : ℕ) → (997 * k) % 5000 ≤ 100000
few_given k = omega arith

row_text : (d e tail : List ℕ) → (67 ∷ (d ++ (44 ∷ (e ++ (10 ∷ []))))) ++ tail ≡ 67 ∷ (d ++ (44 ∷ (e ++ (10 ∷ tail))))
row_text d e tail = ap (λ l. 67 ∷ l) (append_assoc d (44 ∷ (e ++ (10 ∷ []))) tail ∙ ap (λ l. d ++ (44 ∷ l)) (append_assoc e (10 ∷ []) tail))

rows_read : (n : ℕ) → n ≤ 100000 → (tail : List ℕ) → read_from (rows n ++ tail) ≡ record_list n ++ read_from tail
rows_read zero h tail = refl
rows_read (suc k) h tail =
    ap read_from (append_assoc (rows k) (row k) tail)
    ∙ rows_read k (omega arith) (row k ++ tail)
    ∙ ap (λ l. record_list k ++ l) (ap read_from (row_text (decimal k) (given k) tail)
    ∙ row_read (decimal k) (given k) (whole_decimal k (omega arith)).are.1 (whole_decimal ((997 * k) % 5000) (few_given k)).are tail)
    ∙ sym (append_assoc (record_list k) (record_of k ∷ []) (read_from tail))

abbrev header : Record
header = codes "code" ∷ codes "amount" ∷ []

no_bom : (n : ℕ) → household_text n ≡ strip_bom (household_text n)
unfolding strip_bom
no_bom n = refl

household_records : (n : ℕ) → n ≤ 100000 → records_of (household_text n) ≡ header ∷ record_list n
household_records n h =
    sym (records_are_left (household_text n)) ∙ ap read_from (sym (no_bom n))
    ∙ ap (λ l. header ∷ l) (rows_read n h [] ∙ append-nil (record_list n))

-- ---- inputs

abbrev input_of : ℕ → Coded
input_of k = record { code = code_name k; kind = Any }

abbrev inputs_until : ℕ → List Coded
inputs_until zero = []
inputs_until (suc k) = inputs_until k ++ (input_of k ∷ [])

pub declared_inputs : (p : Place) (n : ℕ) → inputs_declared (declared p n) ≡ inputs_until n
declared_inputs p zero = refl
declared_inputs p (suc k) = filter_map-append input_declared (variables p k) (input_variable p k ∷ sum_variable p k ∷ [])
    ∙ ap (λ l. l ++ (input_of k ∷ [])) (declared_inputs p k)

input_codes : (n : ℕ) → codes_of (inputs_until n) ≡ codes_until n
input_codes zero = refl
input_codes (suc k) = map-append (λ (i : Coded). i.code) (inputs_until k) (input_of k ∷ []) ∙ ap (λ l. l ++ (code_name k ∷ [])) (input_codes k)

abbrev AllAny : List Coded → Type 0
AllAny [] = Unit {0}
AllAny (i ∷ is) = (i.kind ≡ Any) × AllAny is

any-append : (is : List Coded) (k : ℕ) → AllAny is → AllAny (is ++ (input_of k ∷ []))
any-append [] k h = (refl, tt)
any-append (i ∷ is) k h = (h.0, any-append is k h.1)

all_any : (n : ℕ) → AllAny (inputs_until n)
all_any zero = tt
all_any (suc k) = any-append (inputs_until k) k (all_any k)

any_type : (is : List Coded) → AllAny is → (k : ℕ) → input_type is k ≡ Any
any_type [] h k = refl
any_type (i ∷ is) h zero = h.0
any_type (i ∷ is) h (suc k) = any_type is h.1 k

length-codes : (n : ℕ) → length (codes_until n) ≡ n
length-codes zero = refl
length-codes (suc k) = let a = length-append (codes_until k) (code_name k ∷ []) in let b = length-codes k in omega arith

index-past : (x : List ℕ) (ns : List (List ℕ)) → has x ns ≡ false → index_of x (ns ++ (x ∷ [])) ≡ Some (length ns)
index-past x [] h = ap (λ b. cond b (Some 0) None) (itself x)
index-past x (n ∷ ns) h =
    let k = or-false (bytes_eq x n) (has x ns) h in
    let e : length ns + 1 ≡ length (n ∷ ns) = omega arith in
    ap (λ b. cond b (Some 0) (option_map (λ i. i + 1) (index_of x (ns ++ (x ∷ []))))) k.0 ∙ ap (option_map (λ i. i + 1)) (index-past x ns k.1) ∙ ap Some e

index-there : (x : List ℕ) (ns ms : List (List ℕ)) (i : ℕ) → index_of x ns ≡ Some i → index_of x (ns ++ ms) ≡ Some i
index-there x [] ms i h = cc
index-there x (n ∷ ns) ms i h = by (bytes_eq x n) (index_of x ns) refl h (index-there x ns ms)
  where
    by : (b : Bool) (o : Option ℕ) → index_of x ns ≡ o → cond b (Some 0) (option_map (λ j. j + 1) o) ≡ Some i
        → ((j : ℕ) → index_of x ns ≡ Some j → index_of x (ns ++ ms) ≡ Some j)
        → cond b (Some 0) (option_map (λ j. j + 1) (index_of x (ns ++ ms))) ≡ Some i
    by true o e f next = f
    by false None e f next = cc
    by false (Some j) e f next = ap (option_map (λ j. j + 1)) (next j e) ∙ f

pub code_known : (n k : ℕ) → k < n → n ≤ 100000 → index_of (code_name k) (codes_until n) ≡ Some k
code_known zero k l h = absurd (omega arith)
code_known (suc m) k l h = elim (cases_lt k m) [
  | inl g ↦ index-there (code_name k) (codes_until m) (code_name m ∷ []) k (code_known m k g (omega arith))
  | inr g ↦
      let same : m ≡ k = omega arith in
      subst (λ x. index_of (code_name x) (codes_until (suc m)) ≡ Some x) same
      (index-past (code_name m) (codes_until m) (new_code m m (omega arith) (omega arith)) ∙ ap Some (length-codes m))
]

-- ---- pairs

abbrev pub pair : ℕ → ℕ × ℤ
pair k = (k, amount (given k))

abbrev pub pairs : ℕ → List (ℕ × ℤ)
pairs zero = []
pairs (suc k) = pairs k ++ (pair k ∷ [])

length-pairs : (n : ℕ) → length (pairs n) ≡ n
length-pairs zero = refl
length-pairs (suc k) = let a = length-append (pairs k) (pair k ∷ []) in let b = length-pairs k in omega arith

new_number : (m k : ℕ) → k ≤ m → is_input_among m (inputs_of (pairs k)) ≡ false
new_number m zero l = refl
new_number m (suc k) l =
    ap (is_input_among m) (map-append (λ (p : ℕ × ℤ). p.0) (pairs k) (pair k ∷ []))
    ∙ list_any-append (λ other. other == m) (inputs_of (pairs k)) (k ∷ [])
    ∙ ap (λ b. b || ((k == m) || false)) (new_number m k (omega arith))
    ∙ ap (λ b. b || false) (ne_eqb k m (λ e. omega arith))

parsed_row : (n k : ℕ) → k < n → n ≤ 100000 → row_of (inputs_until n) (pairs k) (record_of k) ≡ Ok (pair k)
parsed_row n k l h =
    let is = inputs_until n in
    let line = line_behind (length (pairs k)) in
    let p = pair k in
    let count = length-pairs k in
    let few : nat_le 100000 (length (pairs k)) ≡ false = lt-leb 100000 (length (pairs k)) (omega arith) in
    let known : index_of (code_name k) (codes_of is) ≡ Some k = ap (index_of (code_name k)) (input_codes n) ∙ code_known n k l h in
    let read : amount_read (text_value (given k)) ≡ Ok (amount (given k)) = read_amount (given k) (whole_decimal ((997 * k) % 5000) (few_given k)) in
    let fits : is_fitting is p ≡ true = ap (λ t. is_of_type t p.1) (any_type is (all_any n) k) in
    let fresh : is_input_among k (inputs_of (pairs k)) ≡ false = new_number k k (omega arith) in
    let stated : pair_of is line (record_of k) ≡ Ok p =
    ap (λ o. if_read (fitting_pair is line) (parsed_pair line o (amount_read (text_value (given k))))) known
    ∙ ap (λ r. if_read (fitting_pair is line) (parsed_pair line (Some k) r)) read
    ∙ ap (λ b. cond b (Ok p) (Err (NotOfType line))) fits in
    ap (λ b. cond b (Err TooManyRows) (if_read (new_pair line (pairs k)) (pair_of is line (record_of k)))) few
    ∙ ap (if_read (new_pair line (pairs k))) stated
    ∙ ap (λ b. cond b (Err (CodeTwice line)) (Ok p)) fresh

turns-append : {A B F : Type 0} (read : List B → A → Result B F) (before mid : List B) (xs ys : List A) → in_turn read before xs ≡ Ok mid
    → in_turn read before (xs ++ ys) ≡ in_turn read mid ys
turns-append read before mid [] ys h = let e : before ≡ mid = cc in ap (λ b. in_turn read b ys) e
turns-append read before mid (x ∷ xs) ys h = by (read before x) h (λ value. turns-append read (before ++ value ∷ []) mid xs ys)
  where
    by : (r : Result _ _) → if_read (λ value. in_turn read (before ++ value ∷ []) xs) r ≡ Ok mid
        → ((value : _) → in_turn read (before ++ value ∷ []) xs ≡ Ok mid → in_turn read (before ++ value ∷ []) (xs ++ ys) ≡ in_turn read mid ys)
        → if_read (λ value. in_turn read (before ++ value ∷ []) (xs ++ ys)) r ≡ in_turn read mid ys
    by (Ok value) f next = next value f
    by (Err fault) f next = cc

parsed_rows : (n k : ℕ) → k ≤ n → n ≤ 100000 → in_turn (row_of (inputs_until n)) [] (record_list k) ≡ Ok (pairs k)
parsed_rows n zero l h = refl
parsed_rows n (suc k) l h =
    turns-append (row_of (inputs_until n)) [] (pairs k) (record_list k) (record_of k ∷ []) (parsed_rows n k (omega arith) h)
    ∙ ap (if_read (λ value. Ok (pairs k ++ value ∷ []))) (parsed_row n k l h)

-- The household of `large N` gives each input its amount.
pub parsed_household : (p : Place) (n : ℕ) → n ≤ 100000 → household_of (inputs_declared (declared p n)) (household_text n) ≡ Ok (pairs n)
parsed_household p n h =
    ap (λ is. household_of is (household_text n)) (declared_inputs p n)
    ∙ ap (household_read (inputs_until n)) (household_records n h)
    ∙ parsed_rows n n (omega arith) h
