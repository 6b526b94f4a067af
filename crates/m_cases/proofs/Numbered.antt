-- Expectations by the numbers of the face.
use Rattle.std.proofs.Common.{◌≡◌, ℕ, zero, suc, ◌+◌, ◌<◌, ◌≤◌, ◌^◌, cond, arith, get_or, set, take, drop, List, [], ◌∷◌, ◌++◌, map, length, Option, Some, None}
use Rattle.std.proofs.Common.{Result, Ok, Err, true, refl, sym, ap, ◌∙◌}
use Rattle.std.specs.List.{AllByRecursion}
use Rattle.std.proofs.lemmas.Bool.{and_parts, false≢true}
use Rattle.std.proofs.lemmas.List.{drop_more, drop_all, get_or-drop, length-map, length-take-le, take_more, take_all}
use Rattle.std.proofs.Math.Seq.{get_or-append_seam, set-append_seam}
use Rattle.m_fixed.specs.declared.amount.Value.{Value}
use Rattle.observables.specs.declared.answer.Answer.{Answer}
use Rattle.observables.specs.declared.answer.Answer.TheVariants.{Values, Stopped}
use Rattle.observables.specs.declared.face.Face.{Face}
use Rattle.observables.specs.declared.face.FaceLabel.{FaceLabel}
use Rattle.observables.specs.declared.face.FaceOutput.{FaceOutput}
use Rattle.observables.specs.declared.face.FaceOutput.TheVariants.{Named, Noted}
use Rattle.observables.specs.Outputs.{are_named, names_of, notes_of, notes_stand_first}
use Rattle.m_cases.specs.declared.cases.Case.{Case}
use Rattle.m_cases.specs.declared.cases.Cases.{Cases}
use Rattle.m_cases.specs.declared.expected.Expected.{Expected}
use Rattle.m_cases.specs.declared.fault.CasesFault.{CasesFault}
use Rattle.household.specs.InTurn.{if_read}
use Rattle.m_cases.specs.declared.expected.Expected.TheVariants.{Is}
use Rattle.m_cases.specs.Cases.{AreExpected, cases_made, numbered, numbered_cases}
use Rattle.m_cases.specs.Mismatches.{HasOutput, HasValueEach, got_of, is_met, mismatch_count, mismatch_line, mismatch_lines, named_values, one_line}
use Rattle.m_cases.specs.Mismatches.{output_names}
use Rattle.m_cases.proofs.Named.{no_notes}

-- ---- the numbers

known_numbered : (notes n all : ℕ) (es : List (ℕ × Expected)) → notes + n ≤ all → AllByRecursion (λ e. e.0 < n) es
    → AllByRecursion (λ e. e.0 < all) (numbered notes es)
known_numbered notes n all [] few h = tt
known_numbered notes n all (e ∷ es) few h = let l = h.0 in (omega (arith, few, l), known_numbered notes n all es few h.1)

long : (notes : ℕ) (es : List (ℕ × Expected)) → length (numbered notes es) ≡ length es
long notes [] = refl
long notes (e ∷ es) = ap suc (long notes es)

pub each_numbered : (notes n all : ℕ) (expected : List (List (ℕ × Expected))) → notes + n ≤ all → AllByRecursion (AreExpected n) expected
    → AllByRecursion (AreExpected all) (map (numbered notes) expected)
each_numbered notes n all [] few h = tt
each_numbered notes n all (es ∷ expected) few h = (
  record {
    known = known_numbered notes n all es few h.0.known;
    few = let same = long notes es in let l = h.0.few in omega (arith, same, l);
  },
  each_numbered notes n all expected few h.1,
)

small_each : (notes n : ℕ) (es : List (ℕ × Expected)) → notes + n < 2 ^ 32 → AllByRecursion (λ e. e.0 < n) es → AllByRecursion (λ e. notes + e.0 < 2 ^ 32) es
small_each notes n [] few h = tt
small_each notes n (e ∷ es) few h = let l = h.0 in (omega (arith, few, l), small_each notes n es few h.1)

-- the numbers of the face fit 32 bits
abbrev pub AreSmall : ℕ → List Case → Type 0
AreSmall notes cases = AllByRecursion (λ (c : Case). AllByRecursion (λ e. notes + e.0 < 2 ^ 32) c.expected) cases

pub small_cases : (notes n : ℕ) (cases : List Case) → notes + n < 2 ^ 32 → AllByRecursion (AreExpected n) (cases_made cases).expected → AreSmall notes cases
small_cases notes n [] few h = tt
small_cases notes n (case ∷ cases) few h = (small_each notes n case.expected few h.0.known, small_cases notes n cases few h.1)

pub as_many_numbered : (notes : ℕ) (cases : List Case) → length (cases_made cases).expected ≡ length (cases_made cases).rows
    → length (numbered_cases notes (cases_made cases)).expected ≡ length (numbered_cases notes (cases_made cases)).rows
as_many_numbered notes cases h = length-map (cases_made cases).expected (numbered notes) ∙ h

-- one more element at the end
pub map_last : {X Y : Type 0} (f : X → Y) (xs : List X) (x : X) → map f (xs ++ x ∷ []) ≡ map f xs ++ f x ∷ []
map_last f [] x = refl
map_last f (y ∷ xs) x = ap (λ l. f y ∷ l) (map_last f xs x)

seam : (notes : ℕ) (es : List (ℕ × Expected)) (i : ℕ) → i ≤ length es → length (numbered notes (take i es)) ≡ i
seam notes es i h = long notes (take i es) ∙ length-take-le i es h

assoc : (xs ys zs : List (ℕ × Expected)) → (xs ++ ys) ++ zs ≡ xs ++ (ys ++ zs)
assoc [] ys zs = refl
assoc (x ∷ xs) ys zs = ap (λ l. x ∷ l) (assoc xs ys zs)

-- the element at the next position
pub next_is : (notes : ℕ) (es all : List (ℕ × Expected)) (i : ℕ) (d : ℕ × Expected) → all ≡ numbered notes (take i es) ++ drop i es → i < length es
    → get_or all i d ≡ get_or es i d
next_is notes es all i d is h =
    let n = seam notes es i (omega (arith, h)) in
    ap (λ l. get_or l i d) (is ∙ ap (λ l. numbered notes (take i es) ++ l) (drop_more es i d h))
    ∙ ap (λ k. get_or (numbered notes (take i es) ++ get_or es i d ∷ drop (i + 1) es) k d) (sym n)
    ∙ get_or-append_seam (numbered notes (take i es)) (get_or es i d) (drop (i + 1) es) d

pub next_numbered : (notes : ℕ) (es all : List (ℕ × Expected)) (i : ℕ) (d new : ℕ × Expected) → all ≡ numbered notes (take i es) ++ drop i es → i < length es
    → new ≡ (notes + (get_or es i d).0, (get_or es i d).1)
    → set all i new ≡ numbered notes (take (i + 1) es) ++ drop (i + 1) es
next_numbered notes es all i d new is h put =
    let n = seam notes es i (omega (arith, h)) in
    ap (λ l. set l i new) (is ∙ ap (λ l. numbered notes (take i es) ++ l) (drop_more es i d h))
    ∙ ap (λ k. set (numbered notes (take i es) ++ get_or es i d ∷ drop (i + 1) es) k new) (sym n)
    ∙ set-append_seam (numbered notes (take i es)) (get_or es i d) (drop (i + 1) es) new
    ∙ sym (assoc (numbered notes (take i es)) (new ∷ []) (drop (i + 1) es))
    ∙ ap (λ (x : ℕ × Expected). (numbered notes (take i es) ++ x ∷ []) ++ drop (i + 1) es) put
    ∙ ap (λ l. l ++ drop (i + 1) es) (sym (map_last (λ (e : ℕ × Expected). (notes + e.0, e.1)) (take i es) (get_or es i d))
    ∙ ap (numbered notes) (sym (take_more es i d h)))

pub all_numbered : (notes : ℕ) (es all : List (ℕ × Expected)) (i : ℕ) → all ≡ numbered notes (take i es) ++ drop i es → length es ≤ i → all ≡ numbered notes es
all_numbered notes es all i is h =
    is ∙ ap (λ l. numbered notes l ++ drop i es) (take_all i es h) ∙ ap (λ l. numbered notes es ++ l) (drop_all i es h) ∙ append-nil (numbered notes es)
  where
    append-nil : (xs : List (ℕ × Expected)) → xs ++ [] ≡ xs
    append-nil [] = refl
    append-nil (x ∷ xs) = ap (λ l. x ∷ l) (append-nil xs)

-- ---- reading

-- reading with the numbers of the face is reading by positions among the names, then renumbering
pub face_read : (notes : ℕ) (stated : Result Cases CasesFault) (cases : Cases) → if_read (λ c. Ok (numbered_cases notes c)) stated ≡ Ok cases
    → (c : Cases) × (stated ≡ Ok c) × (numbered_cases notes c ≡ cases)
face_read notes (Ok c) cases h = (c, refl, cc h)
face_read notes (Err fault) cases h = absurd (cc h)

pub face_fault : (notes : ℕ) (stated : Result Cases CasesFault) (fault : CasesFault) → if_read (λ c. Ok (numbered_cases notes c)) stated ≡ Err fault
    → stated ≡ Err fault
face_fault notes (Ok c) fault h = absurd (cc h)
face_fault notes (Err other) fault h = cc h

-- ---- the lines

names_all : (outputs : List FaceOutput) → are_named outputs ≡ true → output_names outputs ≡ names_of outputs
names_all [] h = refl
names_all (Named name ∷ outputs) h = ap (λ l. name ∷ l) (names_all outputs h)
names_all (Noted number ∷ outputs) h = absurd (false≢true h)

-- the names come after the notes
names_behind : (labels : List FaceLabel) (outputs : List FaceOutput) → notes_stand_first labels outputs ≡ true
    → drop (length (notes_of outputs)) (output_names outputs) ≡ names_of outputs
names_behind labels [] h = refl
names_behind labels (Named name ∷ outputs) h = ap (λ n. drop n (name ∷ output_names outputs)) (no_notes outputs h) ∙ ap (λ l. name ∷ l) (names_all outputs h)
names_behind labels (Noted number ∷ outputs) h = names_behind labels outputs (and_parts _ _ h).1

name_behind : (labels : List FaceLabel) (outputs : List FaceOutput) (k : ℕ) → notes_stand_first labels outputs ≡ true
    → get_or (output_names outputs) (length (notes_of outputs) + k) [] ≡ get_or (names_of outputs) k []
name_behind labels outputs k h = sym (get_or-drop (length (notes_of outputs)) (output_names outputs) k [])
    ∙ ap (λ l. get_or l k []) (names_behind labels outputs h)

got_behind : (notes : ℕ) (vs : Option (List Value)) (k : ℕ) → got_of vs (notes + k) ≡ got_of (named_values notes vs) k
got_behind notes None k = refl
got_behind notes (Some vs) k = ap Is (sym (get_or-drop notes vs k _))

one_numbered : (labels : List FaceLabel) (outputs : List FaceOutput) (label : List ℕ) (vs : Option (List Value)) (e : ℕ × Expected)
    → notes_stand_first labels outputs ≡ true
    → one_line (output_names outputs) label vs (length (notes_of outputs) + e.0, e.1) ≡ one_line (names_of outputs) label
    (named_values (length (notes_of outputs)) vs) e
one_numbered labels outputs label vs e h =
    ap (λ got. cond (is_met e.1 got) [] (mismatch_line label (get_or (output_names outputs) (length (notes_of outputs) + e.0) []) e.1 got))
    (got_behind (length (notes_of outputs)) vs e.0)
    ∙ ap (λ name. cond (is_met e.1 (got_of (named_values (length (notes_of outputs)) vs) e.0)) []
    (mismatch_line label name e.1 (got_of (named_values (length (notes_of outputs)) vs) e.0))) (name_behind labels outputs e.0 h)

-- the lines are the same with the numbers of the face and with positions among the names
pub lines_numbered : (labels : List FaceLabel) (outputs : List FaceOutput) (label : List ℕ) (vs : Option (List Value)) (es : List (ℕ × Expected))
    → notes_stand_first labels outputs ≡ true
    → mismatch_lines (output_names outputs) label vs (numbered (length (notes_of outputs)) es) ≡ mismatch_lines (names_of outputs) label
    (named_values (length (notes_of outputs)) vs) es
lines_numbered labels outputs label vs [] h = refl
lines_numbered labels outputs label vs (e ∷ es) h = λ i. one_numbered labels outputs label vs e h i ++ lines_numbered labels outputs label vs es h i

-- the same for their count
pub count_numbered : (notes : ℕ) (vs : Option (List Value)) (es : List (ℕ × Expected))
    → mismatch_count vs (numbered notes es) ≡ mismatch_count (named_values notes vs) es
count_numbered notes vs [] = refl
count_numbered notes vs (e ∷ es) = λ i. cond (is_met e.1 (got_behind notes vs e.0 i)) 0 1 + count_numbered notes vs es i

-- ---- an output of the face

pub has_output : (face : Face) (answer : Answer) (output : ℕ) → HasValueEach face answer → output < length face.outputs → HasOutput output answer
has_output face (Values vs) output h l = omega (arith, h, l)
has_output face (Stopped stop) output h l = tt

pub named_there : (outputs : List FaceOutput) (k : ℕ) (found : FaceOutput) (name : List ℕ) → k < length outputs → found ≡ get_or outputs k found
    → found ≡ Named name → name ≡ get_or (output_names outputs) k []
named_there [] k found name l is named = absurd (omega (arith, l))
named_there (Named other ∷ outputs) zero found name l is named = let same : Named name ≡ Named other = sym named ∙ is in cc same
named_there (Noted number ∷ outputs) zero found name l is named = let same : Named name ≡ Noted number = sym named ∙ is in absurd (cc same)
named_there (Named other ∷ outputs) (suc k) found name l is named = named_there outputs k found name (omega (arith, l)) is named
named_there (Noted number ∷ outputs) (suc k) found name l is named = named_there outputs k found name (omega (arith, l)) is named

pub noted_there : (outputs : List FaceOutput) (k : ℕ) (found : FaceOutput) (number : ℕ) → k < length outputs → found ≡ get_or outputs k found
    → found ≡ Noted number → [] ≡ get_or (output_names outputs) k []
noted_there [] k found number l is noted = refl
noted_there (Named other ∷ outputs) zero found number l is noted = let same : Noted number ≡ Named other = sym noted ∙ is in absurd (cc same)
noted_there (Noted n ∷ outputs) zero found number l is noted = refl
noted_there (Named other ∷ outputs) (suc k) found number l is noted = noted_there outputs k found number (omega (arith, l)) is noted
noted_there (Noted n ∷ outputs) (suc k) found number l is noted = noted_there outputs k found number (omega (arith, l)) is noted
