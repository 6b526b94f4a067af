-- A text is the form of at most one loaded code, and then has no fault.
use Rattle.std.proofs.Common.{◌≡◌, ◌≢◌, ◌<◌, ℕ, suc, Bool, true, false, not, List, [], ◌∷◌, ◌++◌, length, map, Option, Some, None, refl, sym, ap, ◌∙◌, subst}
use Rattle.std.proofs.Common.{append_assoc, arith}
use Rattle.std.specs.Prelude.{codes, fold, is_some, is_none, slice_index_or, if◌then◌else◌}
use Rattle.std.specs.List.{AllByRecursion, flat_map}
use Rattle.std.specs.Option.{option_and_then, option_map_or}
use Rattle.std.specs.Str.{bytes_eq}
use Rattle.std.proofs.Common.{inl, inr}
use Rattle.std.proofs.lemmas.Bool.{and_parts, and_from, eqb-true, or_cases}
use Rattle.std.proofs.lemmas.List.{append-nil, map-append}
use Rattle.std.proofs.lemmas.List.Sums.{fold-append}
use Rattle.std.proofs.lemmas.Slice.Eq.{bytes_eq-Decides}
use Rattle.m_names.specs.Names.{AreDistinct, has}
use Rattle.m_names.proofs.Distinct.{twice}
use Rattle.observables.specs.declared.face.FaceLabel.{FaceLabel}
use Rattle.observables.specs.declared.face.FaceOutput.{FaceOutput}
use Rattle.observables.specs.declared.face.FaceOutput.TheVariants.{Named, Noted}
use Rattle.observables.specs.declared.inputs.Coded.{Coded}
use Rattle.observables.specs.Inputs.{codes_of}
use Rattle.observables.specs.Outputs.{are_named, notes_stand_first, verif_at}
use Rattle.reg_machine.specs.declared.instr.Instr.{Instr}
use Rattle.reg_machine.specs.declared.wrong.CodeWrong.TheVariants.{BadNumber, BadOrder as WrongOrder}
use Rattle.reg_machine.specs.Flow.{Counts, Listing, State, code_fault, code_of, fault_from, has_numbers, moved, reading, start, step}
use Rattle.reg_machine.proofs.StepLaws.{reading-none}
use Rattle.code_file.specs.declared.fault.CodeFault.{CodeFault}
use Rattle.code_file.specs.declared.fault.CodeFault.TheVariants.{Memory}
use Rattle.code_file.specs.declared.loaded.Loaded.{Loaded}
use Rattle.code_file.specs.Loading.{text_with}
use Rattle.code_file.specs.Printable.{AreApart, IsFreeWord, IsPrintableLabel, IsPrintableOutput}
use Rattle.code_file.specs.Text.{slots_line, input_line, label_line, output_line, instr_line}
use Rattle.code_file.specs.Reading.{AreDue, Draft, Entry, IsCodeFault, IsFittingLabel, IsFittingOutput, IsFormOf, IsInstr, version, slot_count, an_input}
use Rattle.code_file.specs.Reading.{a_label, an_output, code_start, an_instr, code_end, blank, draft_of, entry_line, stated}
use Rattle.code_file.proofs.EntryLaws.{fault-stops, never-empty, same-stops}

-- ---- the lines of loaded code

abbrev entries_of : Loaded → List Entry
entries_of loaded =
    version ∷ slot_count loaded.code.counts.slots ∷ (map an_input loaded.face.inputs ++ (map a_label loaded.face.labels ++ (map an_output loaded.face.outputs
    ++ (code_start ∷ (map an_instr loaded.code.instrs ++ code_end ∷ [])))))

-- lines of elements of one kind, followed by others
lines-made : {X : Type 0} (line : X → List ℕ) (made : X → Entry) → ((x : X) → entry_line (made x) ≡ line x)
    → (xs : List X) (behind : List Entry) (text : List ℕ) → flat_map entry_line behind ≡ text
    → flat_map entry_line (map made xs ++ behind) ≡ flat_map line xs ++ text
lines-made line made is [] behind text h = h
lines-made line made is (x ∷ xs) behind text h =
    (λ i. is x i ++ lines-made line made is xs behind text h i) ∙ sym (append_assoc (line x) (flat_map line xs) text)

form-text : (loaded : Loaded) → flat_map entry_line (entries_of loaded) ≡ text_with loaded.code loaded.face
form-text loaded =
    let instrs = lines-made instr_line an_instr (λ x. refl) loaded.code.instrs (code_end ∷ []) (codes "end\n") refl in
    let outputs = lines-made output_line an_output (λ x. refl) loaded.face.outputs (code_start ∷ (map an_instr loaded.code.instrs ++ code_end ∷ [])) _
    (ap (λ t. codes "code\n" ++ t) instrs) in
    let labels = lines-made label_line a_label (λ x. refl) loaded.face.labels _ _ outputs in
    let inputs = lines-made input_line an_input (λ x. refl) loaded.face.inputs _ _ labels in
    ap (λ t. codes "mcode 1\n" ++ (slots_line loaded.code.counts.slots ++ t)) inputs

-- ---- the state after them

abbrev draft : ℕ → ℕ → List Coded → List FaceLabel → List FaceOutput → List Instr → Draft
draft part slots inputs labels outputs instrs = record { part = part; slots = slots; inputs = inputs; labels = labels; outputs = outputs; instrs = instrs }

stated-inputs : (s : ℕ) (i xs : List Coded) (behind : List Entry) → fold stated (draft 2 s i [] [] []) (map an_input xs ++ behind) ≡ fold stated
    (draft 2 s (i ++ xs) [] [] []) behind
stated-inputs s i [] behind = ap (λ z. fold stated (draft 2 s z [] [] []) behind) (sym (append-nil i))
stated-inputs s i (x ∷ xs) behind = stated-inputs s (i ++ x ∷ []) xs behind ∙ ap (λ z. fold stated (draft 2 s z [] [] []) behind) (append_assoc i (x ∷ []) xs)

stated-labels : (s : ℕ) (i : List Coded) (l xs : List FaceLabel) (behind : List Entry)
    → fold stated (draft 2 s i l [] []) (map a_label xs ++ behind) ≡ fold stated (draft 2 s i (l ++ xs) [] []) behind
stated-labels s i l [] behind = ap (λ z. fold stated (draft 2 s i z [] []) behind) (sym (append-nil l))
stated-labels s i l (x ∷ xs) behind = stated-labels s i (l ++ x ∷ []) xs behind
    ∙ ap (λ z. fold stated (draft 2 s i z [] []) behind) (append_assoc l (x ∷ []) xs)

stated-outputs : (s : ℕ) (i : List Coded) (l : List FaceLabel) (o xs : List FaceOutput) (behind : List Entry)
    → fold stated (draft 2 s i l o []) (map an_output xs ++ behind) ≡ fold stated (draft 2 s i l (o ++ xs) []) behind
stated-outputs s i l o [] behind = ap (λ z. fold stated (draft 2 s i l z []) behind) (sym (append-nil o))
stated-outputs s i l o (x ∷ xs) behind = stated-outputs s i l (o ++ x ∷ []) xs behind
    ∙ ap (λ z. fold stated (draft 2 s i l z []) behind) (append_assoc o (x ∷ []) xs)

stated-instrs : (s : ℕ) (i : List Coded) (l : List FaceLabel) (o : List FaceOutput) (c xs : List Instr) (behind : List Entry)
    → fold stated (draft 3 s i l o c) (map an_instr xs ++ behind) ≡ fold stated (draft 3 s i l o (c ++ xs)) behind
stated-instrs s i l o c [] behind = ap (λ z. fold stated (draft 3 s i l o z) behind) (sym (append-nil c))
stated-instrs s i l o c (x ∷ xs) behind = stated-instrs s i l o (c ++ x ∷ []) xs behind
    ∙ ap (λ z. fold stated (draft 3 s i l o z) behind) (append_assoc c (x ∷ []) xs)

all-stated : (loaded : Loaded) → draft_of (entries_of loaded) ≡ draft 4 loaded.code.counts.slots loaded.face.inputs loaded.face.labels loaded.face.outputs
    loaded.code.instrs
all-stated loaded =
    stated-inputs loaded.code.counts.slots [] loaded.face.inputs _
    ∙ stated-labels loaded.code.counts.slots loaded.face.inputs [] loaded.face.labels _
    ∙ stated-outputs loaded.code.counts.slots loaded.face.inputs loaded.face.labels [] loaded.face.outputs
    (code_start ∷ (map an_instr loaded.code.instrs ++ code_end ∷ []))
    ∙ stated-instrs loaded.code.counts.slots loaded.face.inputs loaded.face.labels loaded.face.outputs [] loaded.code.instrs (code_end ∷ [])

-- ---- codes are different

has-index : (n : List ℕ) (ns : List (List ℕ)) → has n ns ≡ true → (j : ℕ) × (j < length ns) × (slice_index_or ns j [] ≡ n)
has-index n [] h = cc
has-index n (m ∷ ns) h =
    elim (or_cases (bytes_eq n m) (has n ns) h) [
      | inl e ↦ (0, omega arith, sym ((bytes_eq-Decides n m).0 e))
      | inr e ↦ let r = has-index n ns e in (suc r.0, omega (arith, r.1), r.2)
    ]

not-true : (b : Bool) → (b ≡ true → ⊥) → b ≡ false
not-true true h = absurd (h refl)
not-true false h = refl

is-not : (b : Bool) → (b ≡ true → ⊥) → not b ≡ true
is-not true h = absurd (h refl)
is-not false h = refl

-- a name different from all others is not among them
first-apart : (n : List ℕ) (ns : List (List ℕ)) → AreApart (n ∷ ns) → has n ns ≡ true → ⊥
first-apart n ns apart h =
    let r = has-index n ns h in
    let k : 0 ≡ suc r.0 = apart 0 (suc r.0) (omega arith) (omega (arith, r.1)) (sym r.2) in
    omega (arith, k)

rest-apart : (n : List ℕ) (ns : List (List ℕ)) → AreApart (n ∷ ns) → AreApart ns
rest-apart n ns apart i j a b e = let k : suc i ≡ suc j = apart (suc i) (suc j) (omega (arith, a)) (omega (arith, b)) e in omega (arith, k)

apart-distinct : (names : List (List ℕ)) → AreApart names → AreDistinct names
apart-distinct [] apart = tt
apart-distinct (n ∷ ns) apart = (not-true (has n ns) (first-apart n ns apart), apart-distinct ns (rest-apart n ns apart))

-- ---- each line may come

due-inputs : (s : ℕ) (i xs : List Coded) (behind : List Entry) → AllByRecursion IsFreeWord (codes_of xs) → AreDistinct (codes_of i ++ codes_of xs)
    → AreDue (draft 2 s (i ++ xs) [] [] []) behind
    → AreDue (draft 2 s i [] [] []) (map an_input xs ++ behind)
due-inputs s i [] behind words distinct h = subst (λ (z : List Coded). AreDue (draft 2 s z [] [] []) behind) (append-nil i) h
due-inputs s i (x ∷ xs) behind words distinct h =
    let more : AreDistinct (codes_of (i ++ x ∷ []) ++ codes_of xs) =
    subst AreDistinct (sym (ap (λ l. l ++ codes_of xs) (map-append (λ (c : Coded). c.code) i (x ∷ [])) ∙ append_assoc (codes_of i) (x.code ∷ []) (codes_of xs)))
    distinct in
    let last : AreDue (draft 2 s ((i ++ x ∷ []) ++ xs) [] [] []) behind = subst (λ (z : List Coded). AreDue (draft 2 s z [] [] []) behind)
    (sym (append_assoc i (x ∷ []) xs)) h in (
      words.0,
      is-not (has x.code (codes_of i)) (λ t. twice x.code (codes_of i) (codes_of xs) t distinct),
      due-inputs s (i ++ x ∷ []) xs behind words.1 more
          last,
    )

due-labels : (s : ℕ) (i : List Coded) (l xs : List FaceLabel) (behind : List Entry) → AllByRecursion IsPrintableLabel xs → AllByRecursion IsFittingLabel xs
    → AreDue (draft 2 s i (l ++ xs) [] []) behind
    → AreDue (draft 2 s i l [] []) (map a_label xs ++ behind)
due-labels s i l [] behind p f h = subst (λ (z : List FaceLabel). AreDue (draft 2 s i z [] []) behind) (append-nil l) h
due-labels s i l (x ∷ xs) behind p f h =
    let last : AreDue (draft 2 s i ((l ++ x ∷ []) ++ xs) [] []) behind = subst (λ (z : List FaceLabel). AreDue (draft 2 s i z [] []) behind)
    (sym (append_assoc l (x ∷ []) xs)) h in
    ((p.0, f.0), refl, due-labels s i (l ++ x ∷ []) xs behind p.1 f.1 last)

named-front : (xs ys : List FaceOutput) → are_named (xs ++ ys) ≡ true → are_named xs ≡ true
named-front [] ys h = refl
named-front (Named name ∷ xs) ys h = named-front xs ys h
named-front (Noted number ∷ xs) ys h = h

notes-front : (labels : List FaceLabel) (xs ys : List FaceOutput) → notes_stand_first labels (xs ++ ys) ≡ true → notes_stand_first labels xs ≡ true
notes-front labels [] ys h = refl
notes-front labels (Named name ∷ xs) ys h = named-front xs ys h
notes-front labels (Noted number ∷ xs) ys h =
    let k = and_parts (is_some (verif_at labels number)) (notes_stand_first labels (xs ++ ys)) h in
    and_from (is_some (verif_at labels number)) (notes_stand_first labels xs) k.0 (notes-front labels xs ys k.1)

due-outputs : (s : ℕ) (i : List Coded) (l : List FaceLabel) (o xs : List FaceOutput) (behind : List Entry) → AllByRecursion IsPrintableOutput xs
    → AllByRecursion IsFittingOutput xs
    → notes_stand_first l (o ++ xs) ≡ true → AreDue (draft 2 s i l (o ++ xs) []) behind → AreDue (draft 2 s i l o []) (map an_output xs ++ behind)
due-outputs s i l o [] behind p f first h = subst (λ (z : List FaceOutput). AreDue (draft 2 s i l z []) behind) (append-nil o) h
due-outputs s i l o (x ∷ xs) behind p f first h =
    let same = append_assoc o (x ∷ []) xs in
    let all : notes_stand_first l ((o ++ x ∷ []) ++ xs) ≡ true = ap (notes_stand_first l) same ∙ first in
    let last : AreDue (draft 2 s i l ((o ++ x ∷ []) ++ xs) []) behind = subst (λ (z : List FaceOutput). AreDue (draft 2 s i l z []) behind) (sym same) h in
    ((p.0, f.0), notes-front l (o ++ x ∷ []) xs all, due-outputs s i l (o ++ x ∷ []) xs behind p.1 f.1 all last)

-- ---- valid instructions

read-from : (n : Counts) (s : State) (k : ℕ) (instrs : List Instr) → fault_from n s k instrs ≡ None
    → is_some (fold (λ s i. option_and_then (step n i) s) (Some s) instrs) ≡ true
read-from n s k [] h = refl
read-from n s k (i ∷ instrs) h = by (λ t e. read-from n t (suc k) instrs e) (has_numbers n s i) (moved i s) h
  where
    by : ((t : State) → fault_from n t (suc k) instrs ≡ None → is_some (fold (λ s i. option_and_then (step n i) s) (Some t) instrs) ≡ true)
        → (right : Bool) (next : Option State)
        → (if right then option_map_or (λ t. fault_from n t (suc k) instrs) next (Some (WrongOrder k)) else Some (BadNumber k)) ≡ None
        → is_some (fold (λ s i. option_and_then (step n i) s) (if right then next else None) instrs) ≡ true
    by rest true (Some t) e = rest t e
    by rest true None e = absurd (cc e)
    by rest false next e = absurd (cc e)

front-read : (n : Counts) (o : Option State) (xs : List Instr) → is_some (fold (λ s i. option_and_then (step n i) s) o xs) ≡ true → is_some o ≡ true
front-read n None xs h = sym (ap is_some (reading-none n xs)) ∙ h
front-read n (Some s) xs h = refl

due-instrs : (s : ℕ) (i : List Coded) (l : List FaceLabel) (o : List FaceOutput) (c xs : List Instr) (behind : List Entry) → AllByRecursion IsInstr xs
    → is_some (reading (code_of (length i) s (length l) (length o) (c ++ xs))) ≡ true → AreDue (draft 3 s i l o (c ++ xs)) behind
    → AreDue (draft 3 s i l o c) (map an_instr xs ++ behind)
due-instrs s i l o c [] behind right read h = subst (λ (z : List Instr). AreDue (draft 3 s i l o z) behind) (append-nil c) h
due-instrs s i l o c (x ∷ xs) behind right read h =
    let n : Counts = record { inputs = length i; slots = s; labels = length l; outputs = length o } in
    let same = append_assoc c (x ∷ []) xs in
    let all : is_some (reading (code_of (length i) s (length l) (length o) ((c ++ x ∷ []) ++ xs))) ≡ true = ap
    (λ z. is_some (reading (code_of (length i) s (length l) (length o) z))) same ∙ read in
    let here : is_some (reading (code_of (length i) s (length l) (length o) (c ++ x ∷ []))) ≡ true =
    front-read n (reading (code_of (length i) s (length l) (length o) (c ++ x ∷ []))) xs
    (sym (ap is_some (fold-append (λ s i. option_and_then (step n i) s) (Some (start (length o))) (c ++ x ∷ []) xs)) ∙ all) in
    let last : AreDue (draft 3 s i l o ((c ++ x ∷ []) ++ xs)) behind = subst (λ (z : List Instr). AreDue (draft 3 s i l o z) behind) (sym same) h in
    (right.0, here, due-instrs s i l o (c ++ x ∷ []) xs behind right.1 all last)

-- ---- the whole

-- loaded code has the counts of its face
listing-is : (loaded : Loaded) → loaded.code ≡ code_of (length loaded.face.inputs) loaded.code.counts.slots (length loaded.face.labels)
    (length loaded.face.outputs) loaded.code.instrs
listing-is loaded =
    let first = and_parts _ _ loaded.agree in
    let later = and_parts _ _ first.1 in
    let inputs = eqb-true _ _ first.0 in
    let labels = eqb-true _ _ later.0 in
    let outputs = eqb-true _ _ later.1 in
    λ i. code_of (sym inputs i) loaded.code.counts.slots (sym labels i) (sym outputs i) loaded.code.instrs

form-due : (bytes : List ℕ) (loaded : Loaded) → IsFormOf bytes loaded → AreDue blank (entries_of loaded)
form-due bytes loaded form =
    let slots = loaded.code.counts.slots in
    let face = loaded.face in
    let right : code_fault (code_of (length face.inputs) slots (length face.labels) (length face.outputs) loaded.code.instrs) ≡ None = subst
    (λ (code : Listing). code_fault code ≡ None) (listing-is loaded) form.right in
    let counts : Counts = record { inputs = length face.inputs; slots = slots; labels = length face.labels; outputs = length face.outputs } in (
      tt,
      refl,
      (
        form.fits.slots,
        refl,
        due-inputs slots [] face.inputs _ form.printable.inputs (apart-distinct (codes_of face.inputs) form.printable.apart)
            (due-labels slots face.inputs [] face.labels _ form.printable.labels form.fits.labels
            (due-outputs slots face.inputs face.labels [] face.outputs _ form.printable.outputs form.fits.outputs face.notes (
              tt,
              refl,
              due-instrs slots face.inputs face.labels face.outputs [] loaded.code.instrs (code_end ∷ []) form.fits.instrs
                  (read-from counts (start (length face.outputs)) 0 loaded.code.instrs right)
                  (tt, ap is_none right, tt),
            ))),
      ),
    )

-- a text that is a form has no fault
pub no-fault-of-form : (bytes : List ℕ) (loaded : Loaded) (fault : CodeFault) → IsFormOf bytes loaded → IsCodeFault bytes fault → ⊥
no-fault-of-form bytes loaded fault form is =
    let f = fault-stops bytes fault is in
    let same = same-stops blank f.0 (entries_of loaded) f.1 [] (sym f.2.text ∙ form.text ∙ sym (form-text loaded)
    ∙ sym (append-nil (flat_map entry_line (entries_of loaded))))
    f.2.due (form-due bytes loaded form) f.2.ends (never-empty (draft_of (entries_of loaded))) in
    f.2.open_end (ap {A = List Entry} {B = ℕ} (λ l. (draft_of l).part) same.0 ∙ ap {A = Draft} {B = ℕ} (λ d. d.part) (all-stated loaded)) same.1

-- A text is the form of at most one loaded code.
pub one-form : (bytes : List ℕ) (one other : Loaded) → IsFormOf bytes one → IsFormOf bytes other
    → (one.code ≡ other.code) × (one.face.inputs ≡ other.face.inputs) × (one.face.labels ≡ other.face.labels) × (one.face.outputs ≡ other.face.outputs)
one-form bytes one other a b =
    let same = same-stops blank (entries_of one) (entries_of other) [] [] (ap (λ t. t ++ []) (form-text one ∙ sym a.text ∙ b.text ∙ sym (form-text other)))
    (form-due bytes one a) (form-due bytes other b) (never-empty (draft_of (entries_of one))) (never-empty (draft_of (entries_of other))) in
    let d = sym (all-stated one) ∙ ap draft_of same.0 ∙ all-stated other in (
      listing-is one ∙ (λ i. code_of (length (d i).inputs) (d i).slots (length (d i).labels) (length (d i).outputs) (d i).instrs) ∙ sym (listing-is other),
      ap {A = Draft} {B = List Coded} (λ x. x.inputs) d,
      ap {A = Draft} {B = List FaceLabel} (λ x. x.labels) d,
      ap {A = Draft} {B = List FaceOutput} (λ x. x.outputs) d,
    )
