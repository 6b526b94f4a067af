-- What a reader has left, from one read to the next.
use Rattle.std.proofs.Common.{◌≡◌, ℕ, ◌+◌, ◌<◌, ◌≤◌, zero, suc, List, [], ◌∷◌, ◌++◌, length, Option, Some, None, Bool, true, false, get_or, drop, refl, sym, ap}
use Rattle.std.proofs.Common.{subst, ◌∙◌, arith, cond}
use Rattle.std.proofs.lemmas.Bool.{cond-true, cond-false}
use Rattle.csv.specs.Machine.{Read, step, is_end, ends_at_end, fields_after, field_after, next_record}
use Rattle.csv.specs.Reading.{default_config, is_bom, strip_bom, records_from, records_next}
use Rattle.csv.specs.Records.{field_at}
use Rattle.csv.specs.declared.parser.State.{State}
use Rattle.csv.specs.declared.parser.State.TheVariants as st
use Rattle.csv.specs.declared.parser.Action.{Action as CsvAction}
use Rattle.household.specs.Records.{records_of}
use Rattle.household.specs.Reader.{records_from_state}

-- the records from a state on
abbrev pub behind : State → List ℕ → List (List (List ℕ))
behind s bytes = records_from_state s [] [] bytes

-- they are the next record and those after it
pub next_and_behind : (s : State) (fields : List (List ℕ)) (field bytes : List ℕ)
    → records_from_state s fields field bytes ≡ records_next behind (next_record default_config s fields field bytes)
unfolding next_record
next_and_behind s fields field [] =
    elim (ends_at_end s) as (λ b. cond b ((fields ++ field ∷ []) ∷ []) [] ≡ records_next behind (cond b (Some (fields ++ field ∷ [], st.StartRecord, [])) None))
    [ true ↦ refl | false ↦ refl ]
next_and_behind s fields field (c ∷ rest) =
    let s2 = (step default_config s c).0 in
    let act = (step default_config s c).1 in
    let more = next_and_behind s2 (fields_after act fields field) (field_after act c field) rest in
    elim (is_end act) as (λ b. cond b (fields_after act fields field ∷ behind s2 rest)
    (records_from_state s2 (fields_after act fields field) (field_after act c field) rest)
    ≡ records_next behind (cond b (Some (fields_after act fields field, s2, rest))
    (next_record default_config s2 (fields_after act fields field) (field_after act c field) rest))) [ true ↦ refl | false ↦ more ]

-- a conditional leaves no more than its longer branch
takes_by : (b : Bool) (q p : Read) (o : Option Read) (n : ℕ) → length q.2 ≤ n → (o ≡ Some p → length p.2 ≤ n) → cond b (Some q) o ≡ Some p → length p.2 ≤ n
takes_by true q p o n l h e = let same : q ≡ p = cc in omega (arith, ap (λ (r : Read). length r.2) same)
takes_by false q p o n l h e = h e

-- a record takes at least one byte, where there is one
next_takes : (s : State) (fields : List (List ℕ)) (field : List ℕ) (c : ℕ) (rest : List ℕ) (p : Read)
    → next_record default_config s fields field (c ∷ rest) ≡ Some p → length p.2 ≤ length rest
unfolding next_record
next_takes s fields field c [] p e =
    let s2 = (step default_config s c).0 in
    let act = (step default_config s c).1 in
    takes_by (is_end act) (fields_after act fields field, s2, []) p (next_record default_config s2 (fields_after act fields field) (field_after act c field) [])
    0 (omega arith)
    (λ f. takes_by (ends_at_end s2) (fields_after act fields field ++ (field_after act c field ∷ []), st.StartRecord, []) p None 0 (omega arith) (λ g. cc g) f)
    e
next_takes s fields field c (d ∷ rest) p e =
    let s2 = (step default_config s c).0 in
    let act = (step default_config s c).1 in
    takes_by (is_end act) (fields_after act fields field, s2, d ∷ rest) p
    (next_record default_config s2 (fields_after act fields field) (field_after act c field) (d ∷ rest)) (length (d ∷ rest)) (omega arith)
    (λ f. let shorter = next_takes s2 (fields_after act fields field) (field_after act c field) d rest p f in omega arith) e

-- nothing is left after the end of a text
behind_end : (n : ℕ) → records_from default_config n st.StartRecord [] ≡ []
unfolding next_record records_from
behind_end zero = refl
behind_end (suc n) = refl

same_next : (n : ℕ) (o : Option Read) → ((p : Read) → o ≡ Some p → records_from default_config n p.1 p.2 ≡ behind p.1 p.2)
    → records_next (records_from default_config n) o ≡ records_next behind o
same_next n None h = refl
same_next n (Some p) h = ap (λ rs. p.0 ∷ rs) (h p refl)

at_end : (b : Bool) (q p : Read) → cond b (Some q) None ≡ Some p → q ≡ p
at_end true q p e = cc
at_end false q p e = cc

-- with enough fuel the crate's records are these
enough : (n : ℕ) (s : State) (bytes : List ℕ) → length bytes < n → records_from default_config n s bytes ≡ behind s bytes
unfolding next_record records_from
enough zero s bytes l = absurd (omega arith)
enough (suc n) s [] l =
    same_next n (next_record default_config s [] [] []) (λ p e.
    let same = at_end (ends_at_end s) ([] ∷ [], st.StartRecord, []) p e in
    subst (λ (q : Read). records_from default_config n q.1 q.2 ≡ behind q.1 q.2) same (behind_end n))
    ∙ sym (next_and_behind s [] [] [])
enough (suc n) s (c ∷ rest) l =
    same_next n (next_record default_config s [] [] (c ∷ rest)) (λ p e. let shorter = next_takes s [] [] c rest p e in enough n p.1 p.2 (omega arith))
    ∙ sym (next_and_behind s [] [] (c ∷ rest))

-- the records are those after the byte order mark
pub records_are_left : (bytes : List ℕ) → behind st.StartRecord (strip_bom bytes) ≡ records_of bytes
records_are_left bytes = sym (enough (length (strip_bom bytes) + 1) st.StartRecord (strip_bom bytes) (omega arith))

-- ---- the byte order mark

pub mark_there : (bytes : List ℕ) → 2 < length bytes → is_bom (get_or bytes 0 0) (get_or bytes 1 0) (get_or bytes 2 0) ≡ true → drop 3 bytes ≡ strip_bom bytes
unfolding strip_bom
mark_there [] l h = absurd (omega arith)
mark_there (x ∷ []) l h = absurd (omega arith)
mark_there (x ∷ y ∷ []) l h = absurd (omega arith)
mark_there (x ∷ y ∷ z ∷ rest) l h = sym (cond-true (is_bom x y z) rest (x ∷ y ∷ z ∷ rest) h)

-- the first three bytes are not those of a mark
pub no_mark : (bytes : List ℕ) → (2 < length bytes → is_bom (get_or bytes 0 0) (get_or bytes 1 0) (get_or bytes 2 0) ≡ false) → bytes ≡ strip_bom bytes
unfolding strip_bom
no_mark [] h = refl
no_mark (x ∷ []) h = refl
no_mark (x ∷ y ∷ []) h = refl
no_mark (x ∷ y ∷ z ∷ rest) h = sym (cond-false (is_bom x y z) rest (x ∷ y ∷ z ∷ rest) (h (omega arith)))

-- ---- one more byte

pub byte_joins : (s s2 : State) (a : CsvAction) (fields fields2 : List (List ℕ)) (field field2 : List ℕ) (c : ℕ) (rest : List ℕ)
    → s2 ≡ (step default_config s c).0 → a ≡ (step default_config s c).1 → fields2 ≡ fields_after a fields field → field2 ≡ field_after a c field
    → is_end a ≡ false
    → records_from_state s fields field (c ∷ rest) ≡ records_from_state s2 fields2 field2 rest
byte_joins s s2 a fields fields2 field field2 c rest hs ha hf hg no_end =
    let act = (step default_config s c).1 in
    cond-false (is_end act) (fields_after act fields field ∷ records_from_state (step default_config s c).0 [] [] rest)
    (records_from_state (step default_config s c).0 (fields_after act fields field) (field_after act c field) rest) (ap is_end (sym ha) ∙ no_end)
    ∙ (λ i. records_from_state (sym hs i) (fields_after (sym ha i) fields field) (field_after (sym ha i) c field) rest)
    ∙ (λ i. records_from_state s2 (sym hf i) (sym hg i) rest)

pub byte_ends : (s s2 : State) (a : CsvAction) (fields fields2 : List (List ℕ)) (field : List ℕ) (c : ℕ) (rest : List ℕ)
    → s2 ≡ (step default_config s c).0 → a ≡ (step default_config s c).1 → fields2 ≡ fields_after a fields field → is_end a ≡ true
    → records_from_state s fields field (c ∷ rest) ≡ fields2 ∷ records_from_state s2 [] [] rest
byte_ends s s2 a fields fields2 field c rest hs ha hf ends =
    let act = (step default_config s c).1 in
    cond-true (is_end act) (fields_after act fields field ∷ records_from_state (step default_config s c).0 [] [] rest)
    (records_from_state (step default_config s c).0 (fields_after act fields field) (field_after act c field) rest) (ap is_end (sym ha) ∙ ends)
    ∙ (λ i. fields_after (sym ha i) fields field ∷ records_from_state (sym hs i) [] [] rest)
    ∙ ap (λ (fs : List (List ℕ)). fs ∷ records_from_state s2 [] [] rest) (sym hf)

-- ---- the end of the bytes

pub last_ends : (s : State) (fields : List (List ℕ)) (field : List ℕ) → ends_at_end s ≡ true
    → records_from_state s fields field [] ≡ (fields ++ field ∷ []) ∷ []
last_ends s fields field e = cond-true (ends_at_end s) ((fields ++ field ∷ []) ∷ []) [] e

-- the field at a position, or an empty one
pub field_there : (fields : List (List ℕ)) (place : ℕ) (field : List ℕ) → field_at fields place ≡ Some field → field ≡ get_or fields place []
unfolding field_at
field_there [] place field e = cc
field_there (f ∷ fields) zero field e = cc
field_there (f ∷ fields) (suc place) field e = field_there fields place field e

pub no_field_there : (fields : List (List ℕ)) (place : ℕ) → field_at fields place ≡ None → get_or fields place [] ≡ []
unfolding field_at
no_field_there [] place e = refl
no_field_there (f ∷ fields) zero e = cc
no_field_there (f ∷ fields) (suc place) e = no_field_there fields place e
