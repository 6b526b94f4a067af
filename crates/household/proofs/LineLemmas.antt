-- Records of bytes without quotation marks end where their lines do.
use Rattle.std.proofs.Common.{◌≡◌, ◌⊎◌, ℕ, ◌+◌, ◌-◌, ◌<◌, ◌≤◌, ◌==◌, zero, suc, List, [], ◌∷◌, ◌++◌, length, get_or, drop, take, take_all, length-drop, Bool}
use Rattle.std.proofs.Common.{true, false, cond, refl, sym, ap, subst, ◌∙◌, arith, inl, inr}
use Rattle.std.specs.Prelude.{◌&&◌, ◌||◌, Option, Some, None, is_some}
use Rattle.std.specs.List.{list_any}
use Rattle.std.proofs.lemmas.Bool.{cases_Bool, cond-true, cond-false, eqb-true}
use Rattle.memchr.specs.Find.{IsFirstByte, NoneBefore, Passes, Nowhere, is_byte, is_byte2}
use Rattle.csv.specs.Machine.{step, in_field, start_field, start_record, is_end, ends_with, ends_at_end, fields_after, field_after}
use Rattle.csv.specs.Reading.{default_config, is_bom, strip_bom}
use Rattle.csv.specs.declared.parser.Action.{Action}
use Rattle.csv.specs.declared.parser.Action.TheVariants as act
use Rattle.csv.specs.declared.parser.State.{State}
use Rattle.csv.specs.declared.parser.State.TheVariants as st
use Rattle.csv.specs.declared.parser.Terminator.TheVariants as term
use Rattle.household.specs.Reader.{records_from_state}
use Rattle.household.specs.Lines.{HasNoQuote, IsLineEnd}
use Rattle.household.specs.inner.Cuts.{IsLine}
use Rattle.household.specs.Records.{records_of}
use Rattle.household.proofs.LeftLemmas.{byte_ends, byte_joins, last_ends, records_are_left}

not_true : (b : Bool) → (b ≡ true → ⊥) → b ≡ false
not_true true n = absurd (n refl)
not_true false n = refl

neither_left : (a b : Bool) → (a || b) ≡ false → a ≡ false
neither_left false b e = refl
neither_left true b e = absurd (cc e)

neither_right : (a b : Bool) → (a || b) ≡ false → b ≡ false
neither_right false b e = e
neither_right true b e = absurd (cc e)

or_right : (a b : Bool) → b ≡ true → (a || b) ≡ true
or_right true b e = refl
or_right false b e = e

pub drop_byte : (n : ℕ) (xs : List ℕ) → n < length xs → drop n xs ≡ get_or xs n 0 ∷ drop (suc n) xs
drop_byte zero [] h = absurd (omega (arith, h))
drop_byte zero (x ∷ xs) h = refl
drop_byte (suc n) [] h = absurd (omega (arith, h))
drop_byte (suc n) (x ∷ xs) h = drop_byte n xs (omega (arith, h))

-- ---- quotation marks

-- no byte is a quotation mark
pub quote_nowhere : (bytes : List ℕ) → ((k : ℕ) → k < length bytes → is_byte 34 (get_or bytes k 0) ≡ true → ⊥) → list_any (λ byte. byte == 34) bytes ≡ false
quote_nowhere [] none = refl
quote_nowhere (c ∷ rest) none =
    let first : (c == 34) ≡ false = not_true (c == 34) (none 0 (omega arith)) in
    ap (λ b. b || list_any (λ byte. byte == 34) rest) first ∙ quote_nowhere rest (λ k l. none (suc k) (omega (arith, l)))

-- this byte is a quotation mark
pub quote_somewhere : (bytes : List ℕ) (k : ℕ) → k < length bytes → is_byte 34 (get_or bytes k 0) ≡ true → list_any (λ byte. byte == 34) bytes ≡ true
quote_somewhere [] k l e = absurd (omega (arith, l))
quote_somewhere (c ∷ rest) zero l e = ap (λ b. b || list_any (λ byte. byte == 34) rest) e
quote_somewhere (c ∷ rest) (suc k) l e = or_right (c == 34) (list_any (λ byte. byte == 34) rest) (quote_somewhere rest k (omega (arith, l)) e)

-- the result of the search
pub parsed_quote : (bytes : List ℕ) (place : Option ℕ) → IsFirstByte (is_byte 34) bytes place → is_some place ≡ list_any (λ byte. byte == 34) bytes
parsed_quote bytes None none = sym (quote_nowhere bytes (λ k l e. none k (omega arith) l e))
parsed_quote bytes (Some k) found = sym (quote_somewhere bytes k found.0.high found.1)

pub no_quote_drop : (n : ℕ) (bytes : List ℕ) → HasNoQuote bytes → HasNoQuote (drop n bytes)
no_quote_drop zero bytes q = q
no_quote_drop (suc n) [] q = q
no_quote_drop (suc n) (c ∷ rest) q = no_quote_drop n rest (neither_right (c == 34) (list_any (λ byte. byte == 34) rest) q)

-- ---- the first line end

pub line_found : (bytes : List ℕ) (k : ℕ) → k < length bytes → ((j : ℕ) → j < k → is_byte2 13 10 (get_or bytes j 0) ≡ true → ⊥)
    → is_byte2 13 10 (get_or bytes k 0) ≡ true → IsLine k bytes
line_found [] k l none e = absurd (omega (arith, l))
line_found (c ∷ rest) zero l none e = e
line_found (c ∷ rest) (suc k) l none e = (
  not_true (is_byte2 13 10 c) (none 0 (omega arith)),
  line_found rest k (omega (arith, l))
      (λ j m. none (suc j) (omega (arith, m))) e,
)

pub line_none : (bytes : List ℕ) → ((j : ℕ) → j < length bytes → is_byte2 13 10 (get_or bytes j 0) ≡ true → ⊥) → IsLine (length bytes) bytes
line_none [] none = tt
line_none (c ∷ rest) none = (not_true (is_byte2 13 10 c) (none 0 (omega arith)), line_none rest (λ j m. none (suc j) (omega (arith, m))))

-- the bytes from a position on, as a slice
pub rest_is : (bytes : List ℕ) (from : ℕ) → take (length bytes - from) (drop from bytes) ≡ drop from bytes
rest_is bytes from = take_all (length bytes - from) (drop from bytes) (let long = length-drop from bytes in omega (arith, long))

pub end_found : (bytes hay : List ℕ) (from k : ℕ) → hay ≡ take (length bytes - from) (drop from bytes)
    → NoneBefore (Passes (is_byte2 13 10) hay) 0 (length hay) k → Passes (is_byte2 13 10) hay k
    → IsLine (from + k - from) (drop from bytes)
end_found bytes hay from k h none here =
    let line = line_found hay k none.high (λ j m. none.before j (omega arith) m) here in
    let count : k ≡ from + k - from = omega arith in
    subst (λ n. IsLine n (drop from bytes)) count (subst (IsLine k) (h ∙ rest_is bytes from) line)

pub end_none : (bytes hay : List ℕ) (from : ℕ) → from ≤ length bytes → hay ≡ take (length bytes - from) (drop from bytes)
    → Nowhere (Passes (is_byte2 13 10) hay) 0 (length hay)
    → IsLine (length bytes - from) (drop from bytes)
end_none bytes hay from within h none =
    let line = line_none hay (λ j m. none j (omega arith) m) in
    let same : hay ≡ drop from bytes = h ∙ rest_is bytes from in
    let long = length-drop from bytes in
    let count : length (drop from bytes) ≡ length bytes - from = omega (arith, long) in
    subst (λ n. IsLine n (drop from bytes)) count (subst (λ (l : List ℕ). IsLine (length l) l) same line)

pub line_ends : (n : ℕ) (bytes : List ℕ) → IsLine n bytes → IsLineEnd (drop n bytes)
line_ends zero bytes l = l
line_ends (suc n) [] l = absurd l
line_ends (suc n) (c ∷ rest) l = line_ends n rest l.1

-- ---- the crate's machine

-- the two bytes that end a line
end_byte : (c : ℕ) → ends_with term.CRLF c ≡ true → (c ≡ 13) ⊎ (c ≡ 10)
end_byte c e = elim (cases_Bool (c == 13)) [
  | inl same ↦ inl (eqb-true c 13 same)
  | inr other ↦ inr (eqb-true c 10 (rw other at e))
]

-- a byte with the same effect in two states
same_step : (s t : State) (fields : List (List ℕ)) (field : List ℕ) (c : ℕ) (rest : List ℕ) → step default_config s c ≡ step default_config t c
    → records_from_state s fields field (c ∷ rest) ≡ records_from_state t fields field (c ∷ rest)
same_step s t fields field c rest e =
    ap (λ (p : State × Action). cond (is_end p.1) (fields_after p.1 fields field ∷ records_from_state p.0 [] [] rest)
    (records_from_state p.0 (fields_after p.1 fields field) (field_after p.1 c field) rest)) e

-- after a carriage return a record begins
after_return : (rest : List ℕ) → records_from_state st.AfterCr [] [] rest ≡ records_from_state st.StartRecord [] [] rest
after_return [] = refl
after_return (c ∷ rest) = elim (cases_Bool (c == 10)) [
  | inl same ↦
      subst (λ (z : ℕ). records_from_state st.AfterCr [] [] (z ∷ rest) ≡ records_from_state st.StartRecord [] [] (z ∷ rest)) (sym (eqb-true c 10 same)) refl
  | inr other ↦ same_step st.AfterCr st.StartRecord [] [] c rest (cond-false (c == 10) (st.StartRecord, act.Skip) (start_record default_config c) other)
]

-- a line end before a record is skipped
pub skips_end : (c : ℕ) (rest : List ℕ) → ends_with term.CRLF c ≡ true → records_from_state st.StartRecord [] [] (c ∷ rest) ≡ records_from_state st.StartRecord
    [] [] rest
skips_end c rest e = elim (end_byte c e) [
  | inl same ↦ subst (λ (z : ℕ). records_from_state st.StartRecord [] [] (z ∷ rest) ≡ records_from_state st.StartRecord [] [] rest) (sym same) refl
  | inr same ↦ subst (λ (z : ℕ). records_from_state st.StartRecord [] [] (z ∷ rest) ≡ records_from_state st.StartRecord [] [] rest) (sym same) refl
]

-- bytes that begin with a line end don't begin with a byte order mark
pub no_mark_there : (bytes : List ℕ) → IsLineEnd bytes → strip_bom bytes ≡ bytes
unfolding strip_bom
no_mark_there [] l = refl
no_mark_there (a ∷ []) l = refl
no_mark_there (a ∷ b ∷ []) l = refl
no_mark_there (a ∷ b ∷ c ∷ rest) l = elim (end_byte a l) [
  | inl same ↦ subst (λ (z : ℕ). strip_bom (z ∷ b ∷ c ∷ rest) ≡ z ∷ b ∷ c ∷ rest) (sym same) refl
  | inr same ↦ subst (λ (z : ℕ). strip_bom (z ∷ b ∷ c ∷ rest) ≡ z ∷ b ∷ c ∷ rest) (sym same) refl
]

-- a state within a line, outside quotation marks
record InLine (s : State) : Type 0 where
  steps : (c : ℕ) → (c == 34) ≡ false → step default_config s c ≡ in_field default_config c
  ends : ends_at_end s ≡ true

at_field : InLine st.StartField
at_field = record { steps = λ c no. cond-false (c == 34) (st.InQuoted, act.Skip) (in_field default_config c) no; ends = refl }

in_line : InLine st.InField
in_line = record { steps = λ c no. refl; ends = refl }

-- the end of a line ends the record
ends_here : (s : State) → InLine s → (fields : List (List ℕ)) (field : List ℕ) (c : ℕ) (rest : List ℕ) → ends_with term.CRLF c ≡ true
    → records_from_state s fields field (c ∷ rest) ≡ (fields ++ field ∷ []) ∷ records_from_state st.StartRecord [] [] (c ∷ rest)
ends_here s line fields field c rest e = elim (end_byte c e) [
  | inl same ↦
      subst (λ (z : ℕ). records_from_state s fields field (z ∷ rest) ≡ (fields ++ field ∷ []) ∷ records_from_state st.StartRecord [] [] (z ∷ rest)) (sym same)
      (let to : step default_config s 13 ≡ (st.AfterCr, act.EndRecord) = line.steps 13 refl in
      byte_ends s st.AfterCr act.EndRecord fields (fields ++ field ∷ []) field 13 rest (sym (ap (λ p. p.0) to)) (sym (ap (λ p. p.1) to)) refl refl
      ∙ ap (λ l. (fields ++ field ∷ []) ∷ l) (after_return rest))
  | inr same ↦
      subst (λ (z : ℕ). records_from_state s fields field (z ∷ rest) ≡ (fields ++ field ∷ []) ∷ records_from_state st.StartRecord [] [] (z ∷ rest)) (sym same)
      (let to : step default_config s 10 ≡ (st.StartRecord, act.EndRecord) = line.steps 10 refl in
      byte_ends s st.StartRecord act.EndRecord fields (fields ++ field ∷ []) field 10 rest (sym (ap (λ p. p.0) to)) (sym (ap (λ p. p.1) to)) refl refl)
]

-- the records after the one that was begun
line_over : (s : State) → InLine s → (fields : List (List ℕ)) (field : List ℕ) (n : ℕ) (bytes : List ℕ) → HasNoQuote bytes → IsLine n bytes
    → (read : List (List ℕ)) × (records_from_state s fields field bytes ≡ read ∷ records_from_state st.StartRecord [] [] (drop n bytes))
line_over s line fields field zero [] q l = (fields ++ field ∷ [], last_ends s fields field line.ends)
line_over s line fields field zero (c ∷ rest) q l = (fields ++ field ∷ [], ends_here s line fields field c rest l)
line_over s line fields field (suc n) [] q l = absurd l
line_over s line fields field (suc n) (c ∷ rest) q l =
    let to = line.steps c (neither_left (c == 34) (list_any (λ byte. byte == 34) rest) q) in
    let none = neither_right (c == 34) (list_any (λ byte. byte == 34) rest) q in
    let joins : State × Action = cond (ends_with term.CRLF c) (cond (c == 13) st.AfterCr st.StartRecord, act.EndRecord) (st.InField, act.Copy) in
    elim (cases_Bool (c == 44)) [
      | inl comma ↦
          let over : step default_config s c ≡ (st.StartField, act.EndField) = to ∙ cond-true (c == 44) (st.StartField, act.EndField) joins comma in
          let more = line_over st.StartField at_field (fields ++ field ∷ []) [] n rest none l.1 in (
            more.0,
            byte_joins s st.StartField act.EndField fields (fields ++ field ∷ []) field [] c rest (sym (ap (λ p. p.0) over)) (sym (ap (λ p. p.1) over)) refl
                refl refl ∙ more.1,
          )
      | inr other ↦
          let over : step default_config s c ≡ (st.InField, act.Copy) =
          to ∙ cond-false (c == 44) (st.StartField, act.EndField) joins other
          ∙ cond-false (ends_with term.CRLF c) (cond (c == 13) st.AfterCr st.StartRecord, act.EndRecord) (st.InField, act.Copy) l.0 in
          let more = line_over st.InField in_line fields (field ++ c ∷ []) n rest none l.1 in (
            more.0,
            byte_joins s st.InField act.Copy fields fields field (field ++ c ∷ []) c rest (sym (ap (λ p. p.0) over)) (sym (ap (λ p. p.1) over)) refl refl refl
                ∙ more.1,
          )
    ]

-- a line that isn't empty is a record
pub record_over : (n : ℕ) (bytes : List ℕ) → HasNoQuote bytes → IsLine (suc n) bytes
    → (read : List (List ℕ)) × (records_from_state st.StartRecord [] [] bytes ≡ read ∷ records_from_state st.StartRecord [] [] (drop (suc n) bytes))
record_over n [] q l = absurd l
record_over n (c ∷ rest) q l =
    let more = line_over st.StartField at_field [] [] (suc n) (c ∷ rest) q l in (
      more.0,
      same_step st.StartRecord st.StartField [] [] c rest (cond-false (ends_with term.CRLF c) (st.StartRecord, act.Skip) (start_field default_config c)
          l.0) ∙ more.1,
    )

-- ---- records in parts

-- a state outside quotation marks: within a line, or at the start of a record
abbrev IsWithinCount : State → List (List ℕ) → List ℕ → Type 0
IsWithinCount s fields field = InLine s ⊎ ((s ≡ st.StartRecord) × (fields ≡ []) × (field ≡ []))

stands_step : (s : State) (fields : List (List ℕ)) (field : List ℕ) (c : ℕ) → IsWithinCount s fields field → ends_with term.CRLF c ≡ false → (c == 34) ≡ false
    → step default_config s c ≡ in_field default_config c
stands_step s fields field c (inl line) e q = line.steps c q
stands_step s fields field c (inr start) e q =
    subst (λ (z : State). step default_config z c ≡ in_field default_config c) (sym start.0)
    (cond-false (ends_with term.CRLF c) (st.StartRecord, act.Skip) (start_field default_config c) e ∙ at_field.steps c q)

-- at the end of a line
stands_end : (s : State) (fields : List (List ℕ)) (field : List ℕ) (c : ℕ) (rest back : List ℕ) → IsWithinCount s fields field → ends_with term.CRLF c ≡ true
    → (records_from_state st.StartRecord [] [] (rest ++ back) ≡ records_from_state st.StartRecord [] [] rest ++ records_from_state st.StartRecord [] [] back)
    → records_from_state s fields field (c ∷ rest ++ back) ≡ records_from_state s fields field (c ∷ rest) ++ records_from_state st.StartRecord [] [] back
stands_end s fields field c rest back (inl line) e more =
    ends_here s line fields field c (rest ++ back) e
    ∙ ap (λ l. (fields ++ field ∷ []) ∷ l) (skips_end c (rest ++ back) e ∙ more
    ∙ ap (λ l. l ++ records_from_state st.StartRecord [] [] back) (sym (skips_end c rest e)))
    ∙ ap (λ l. l ++ records_from_state st.StartRecord [] [] back) (sym (ends_here s line fields field c rest e))
stands_end s fields field c rest back (inr start) e more =
    (λ i. records_from_state (start.0 i) (start.1 i) (start.2 i) (c ∷ rest ++ back))
    ∙ skips_end c (rest ++ back) e ∙ more ∙ ap (λ l. l ++ records_from_state st.StartRecord [] [] back) (sym (skips_end c rest e))
    ∙ (λ i. records_from_state (sym start.0 i) (sym start.1 i) (sym start.2 i) (c ∷ rest) ++ records_from_state st.StartRecord [] [] back)

-- the end of the first part
stands_last : (s : State) (fields : List (List ℕ)) (field back : List ℕ) → IsWithinCount s fields field → IsLineEnd back
    → records_from_state s fields field back ≡ records_from_state s fields field [] ++ records_from_state st.StartRecord [] [] back
stands_last s fields field [] (inl line) l = last_ends s fields field line.ends ∙ ap (λ rs. rs ++ []) (sym (last_ends s fields field line.ends))
stands_last s fields field (c ∷ rest) (inl line) l =
    ends_here s line fields field c rest l ∙ ap (λ rs. rs ++ records_from_state st.StartRecord [] [] (c ∷ rest)) (sym (last_ends s fields field line.ends))
stands_last s fields field back (inr start) l =
    (λ i. records_from_state (start.0 i) (start.1 i) (start.2 i) back)
    ∙ (λ i. records_from_state (sym start.0 i) (sym start.1 i) (sym start.2 i) [] ++ records_from_state st.StartRecord [] [] back)

parts_join : (s : State) (fields : List (List ℕ)) (field front back : List ℕ) → IsWithinCount s fields field → HasNoQuote front → IsLineEnd back
    → records_from_state s fields field (front ++ back) ≡ records_from_state s fields field front ++ records_from_state st.StartRecord [] [] back
parts_join s fields field [] back here q l = stands_last s fields field back here l
parts_join s fields field (c ∷ rest) back here q l =
    let first = neither_left (c == 34) (list_any (λ byte. byte == 34) rest) q in
    let none = neither_right (c == 34) (list_any (λ byte. byte == 34) rest) q in
    let joins : State × Action = cond (ends_with term.CRLF c) (cond (c == 13) st.AfterCr st.StartRecord, act.EndRecord) (st.InField, act.Copy) in
    elim (cases_Bool (ends_with term.CRLF c)) [
      | inl ends ↦ stands_end s fields field c rest back here ends (parts_join st.StartRecord [] [] rest back (inr (refl, refl, refl)) none l)
      | inr inner ↦ elim (cases_Bool (c == 44)) [
        | inl comma ↦
            let over : step default_config s c ≡ (st.StartField, act.EndField) = stands_step s fields field c here inner first
            ∙ cond-true (c == 44) (st.StartField, act.EndField) joins comma in
            byte_joins s st.StartField act.EndField fields (fields ++ field ∷ []) field [] c (rest ++ back) (sym (ap (λ p. p.0) over))
            (sym (ap (λ p. p.1) over)) refl refl refl
            ∙ parts_join st.StartField (fields ++ field ∷ []) [] rest back (inl at_field) none l
            ∙ ap (λ rs. rs ++ records_from_state st.StartRecord [] [] back)
            (sym (byte_joins s st.StartField act.EndField fields (fields ++ field ∷ []) field [] c rest (sym (ap (λ p. p.0) over)) (sym (ap (λ p. p.1) over))
            refl refl refl))
        | inr other ↦
            let over : step default_config s c ≡ (st.InField, act.Copy) =
            stands_step s fields field c here inner first ∙ cond-false (c == 44) (st.StartField, act.EndField) joins other
            ∙ cond-false (ends_with term.CRLF c) (cond (c == 13) st.AfterCr st.StartRecord, act.EndRecord) (st.InField, act.Copy) inner in
            byte_joins s st.InField act.Copy fields fields field (field ++ c ∷ []) c (rest ++ back) (sym (ap (λ p. p.0) over)) (sym (ap (λ p. p.1) over)) refl
            refl refl
            ∙ parts_join st.InField fields (field ++ c ∷ []) rest back (inl in_line) none l
            ∙ ap (λ rs. rs ++ records_from_state st.StartRecord [] [] back)
            (sym (byte_joins s st.InField act.Copy fields fields field (field ++ c ∷ []) c rest (sym (ap (λ p. p.0) over)) (sym (ap (λ p. p.1) over)) refl refl
            refl))
      ]
    ]

-- a line end isn't part of a byte order mark
no_second : (a b c : ℕ) → ends_with term.CRLF b ≡ true → is_bom a b c ≡ false
no_second a b c e = elim (cases_Bool (a == 239)) [
  | inl begun ↦ rw begun (elim (end_byte b e) [
    | inl same ↦ subst (λ (z : ℕ). (true && (z == 187) && (c == 191)) ≡ false) (sym same) refl
    | inr same ↦ subst (λ (z : ℕ). (true && (z == 187) && (c == 191)) ≡ false) (sym same) refl
  ])
  | inr other ↦ rw other refl
]

no_third : (a b c : ℕ) → ends_with term.CRLF c ≡ true → is_bom a b c ≡ false
no_third a b c e = elim (cases_Bool (a == 239)) [
  | inl begun ↦ elim (cases_Bool (b == 187)) [
    | inl second ↦ rw (begun, second) (elim (end_byte c e) [
      | inl same ↦ subst (λ (z : ℕ). (true && true && (z == 191)) ≡ false) (sym same) refl
      | inr same ↦ subst (λ (z : ℕ). (true && true && (z == 191)) ≡ false) (sym same) refl
    ])
    | inr another ↦ rw (begun, another) refl
  ]
  | inr other ↦ rw other refl
]

-- the byte order mark of the whole is that of its first part
strip_joins : (front back : List ℕ) → IsLineEnd back → strip_bom (front ++ back) ≡ strip_bom front ++ back
unfolding strip_bom
strip_joins [] back l = no_mark_there back l
strip_joins (a ∷ []) [] l = refl
strip_joins (a ∷ []) (b ∷ []) l = refl
strip_joins (a ∷ []) (b ∷ c ∷ back) l = cond-false (is_bom a b c) back (a ∷ b ∷ c ∷ back) (no_second a b c l)
strip_joins (a ∷ b ∷ []) [] l = refl
strip_joins (a ∷ b ∷ []) (c ∷ back) l = cond-false (is_bom a b c) back (a ∷ b ∷ c ∷ back) (no_third a b c l)
strip_joins (a ∷ b ∷ c ∷ front) back l =
    elim (is_bom a b c) as (λ t. cond t (front ++ back) (a ∷ b ∷ c ∷ front ++ back) ≡ cond t front (a ∷ b ∷ c ∷ front) ++ back) [ true ↦ refl | false ↦ refl ]

no_quote_strip : (bytes : List ℕ) → HasNoQuote bytes → HasNoQuote (strip_bom bytes)
unfolding strip_bom
no_quote_strip [] q = q
no_quote_strip (a ∷ []) q = q
no_quote_strip (a ∷ b ∷ []) q = q
no_quote_strip (a ∷ b ∷ c ∷ rest) q =
    elim (is_bom a b c) as (λ t. HasNoQuote (cond t rest (a ∷ b ∷ c ∷ rest))) [ true ↦ no_quote_drop 3 (a ∷ b ∷ c ∷ rest) q | false ↦ q ]

-- the records of two parts are those of the whole
pub records_join : (front back : List ℕ) → HasNoQuote front → IsLineEnd back → records_of (front ++ back) ≡ records_of front ++ records_of back
records_join front back q l =
    sym (records_are_left (front ++ back))
    ∙ ap (records_from_state st.StartRecord [] []) (strip_joins front back l)
    ∙ parts_join st.StartRecord [] [] (strip_bom front) back (inr (refl, refl, refl)) (no_quote_strip front q) l
    ∙ (λ i. records_are_left front i ++ records_from_state st.StartRecord [] [] (sym (no_mark_there back l) i))
    ∙ ap (λ rs. records_of front ++ rs) (records_are_left back)
