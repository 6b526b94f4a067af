-- Sequences of valid lines, and the first line that isn't valid.
use Rattle.std.proofs.Common.{◌≡◌, ◌≢◌, ◌<◌, ◌≤◌, ◌+◌, ℕ, suc, false, true, not, IsTrue, is_some, List, [], ◌∷◌, ◌++◌, length, fold, refl}
use Rattle.std.proofs.Common.{sym, ap, ◌∙◌, subst, arith, append_assoc, append-nil, length-append}
use Rattle.std.specs.List.{AllByRecursion, flat_map}
use Rattle.std.proofs.lemmas.Bool.{and_parts, and_from, false≢true, not_from_false, false_from_ne_true}
use Rattle.std.proofs.lemmas.List.Sums.{fold-append}
use Rattle.reg_machine.specs.declared.instr.Instr.TheVariants.{Take, Lit, Do, Store, Load, Check, Output}
use Rattle.m_names.specs.Names.{has, AreDistinct}
use Rattle.m_names.proofs.Distinct.{twice}
use Rattle.observables.specs.declared.inputs.Coded.{Coded}
use Rattle.observables.specs.declared.face.FaceLabel.{FaceLabel}
use Rattle.observables.specs.declared.face.FaceLabel.TheVariants.{Verif, DriverLine}
use Rattle.observables.specs.declared.face.FaceOutput.{FaceOutput}
use Rattle.observables.specs.declared.face.FaceOutput.TheVariants.{Named, Noted}
use Rattle.observables.specs.Inputs.{codes_of}
use Rattle.observables.specs.Outputs.{are_named, notes_stand_first, verif_at}
use Rattle.code_file.specs.declared.fault.CodeFault.TheVariants.{BadLine, BadOrder}
use Rattle.code_file.specs.Text.{slots_line, input_line, label_line, output_line}
use Rattle.code_file.specs.Reading.{Entry, version, slot_count, an_input, a_label, an_output, code_start, an_instr, code_end, entry_line, IsEntry, IsShort}
use Rattle.code_file.specs.Reading.{Draft, blank, due, stated, AreDue, Ends, ReadsUnwritten, IsCodeFault}
use Rattle.code_file.specs.inner.Faces.{IsRightInput, IsRightLabel, IsRightOutput}
use Rattle.code_file.specs.inner.Came.{Came, face_so_far, face_text, IsRightFace}
use Rattle.code_file.proofs.FrontLemmas.{lines-push}

-- ---- one more line

due-push : (d : Draft) (es : List Entry) (e : Entry) → AreDue d es → IsEntry e → IsTrue (due e (fold stated d es)) → AreDue d (es ++ e ∷ [])
due-push d [] e h i t = (i, t, tt)
due-push d (x ∷ es) e h i t = (h.0, h.1, due-push (stated d x) es e h.2 i t)

pub came-none : (bytes : List ℕ) → Came bytes blank 0 bytes
came-none bytes = record { entries = []; text = refl; due = tt; is = refl; count = refl }

pub came-next : (bytes rest behind : List ℕ) (d : Draft) (n : ℕ) (e : Entry) → Came bytes d n rest → IsEntry e → IsTrue (due e d)
    → rest ≡ entry_line e ++ behind → Came bytes (stated d e) (suc n) behind
came-next bytes rest behind d n e c i t h = record {
  entries = c.entries ++ e ∷ [];
  text = lines-push entry_line bytes rest behind c.entries e c.text h;
  due = due-push blank c.entries e c.due i (subst (λ x. IsTrue (due e x)) (sym c.is) t);
  is = fold-append stated blank c.entries (e ∷ []) ∙ ap (λ x. stated x e) c.is;
  count = omega (arith, length-append c.entries (e ∷ []), c.count);
}

-- a line has at least one byte
pub entry-long : (e : Entry) → 0 < length (entry_line e)
entry-long version = omega arith
entry-long (slot_count n) = omega arith
entry-long (an_input input) = omega arith
entry-long (a_label (Verif label)) = omega arith
entry-long (a_label (DriverLine n)) = omega arith
entry-long (an_output (Named name)) = omega arith
entry-long (an_output (Noted n)) = omega arith
entry-long code_start = omega arith
entry-long (an_instr (Take r n)) = omega arith
entry-long (an_instr (Lit r v)) = omega arith
entry-long (an_instr (Do op r a b c)) = omega arith
entry-long (an_instr (Store k r)) = omega arith
entry-long (an_instr (Load r k)) = omega arith
entry-long (an_instr (Check g c false n)) = omega arith
entry-long (an_instr (Check g c true n)) = omega arith
entry-long (an_instr (Output k r)) = omega arith
entry-long code_end = omega arith

pub lines-long : {X : Type 0} (line : X → List ℕ) (xs : List X) → ((x : X) → 0 < length (line x)) → length xs ≤ length (flat_map line xs)
lines-long line [] some = omega arith
lines-long line (x ∷ xs) some = omega (arith, some x, lines-long line xs some, length-append (line x) (flat_map line xs))

pub came-long : (bytes rest : List ℕ) (d : Draft) (n : ℕ) → Came bytes d n rest → n ≤ length bytes
came-long bytes rest d n c = omega (
  arith,
  ap length c.text,
  length-append (flat_map entry_line c.entries) rest,
  lines-long entry_line c.entries entry-long,
  c.count,
)

-- ---- faults

pub fault-line : (bytes rest : List ℕ) (d : Draft) (n m : ℕ) → Came bytes d n rest → 0 < n → Ends d rest → (d.part ≡ 4 → rest ≢ [])
    → (ReadsUnwritten d rest → ⊥) → m ≡ suc n → IsCodeFault bytes (BadLine m)
fault-line bytes rest d n m c some ends open_end other e = (
  c.entries,
  rest,
  record { text = c.text; due = c.due; ends = subst (λ x. Ends x rest) (sym c.is) ends; open_end = λ p. open_end (sym (ap (λ x. x.part) c.is) ∙ p) },
  (λ p. omega (arith, ap length p, c.count, some)),
  (omega (arith, e, c.count)),
  (λ r. other (subst (λ x. ReadsUnwritten x rest) c.is r)),
)

pub fault-order : (bytes rest : List ℕ) (d : Draft) (n m : ℕ) → Came bytes d n rest → Ends d rest → (d.part ≡ 4 → rest ≢ []) → ReadsUnwritten d rest → m ≡ suc n
    → IsCodeFault bytes (BadOrder m)
fault-order bytes rest d n m c ends open_end reads e = (
  c.entries,
  rest,
  record { text = c.text; due = c.due; ends = subst (λ x. Ends x rest) (sym c.is) ends; open_end = λ p. open_end (sym (ap (λ x. x.part) c.is) ∙ p) },
  (omega (arith, e, c.count)),
  subst (λ x. ReadsUnwritten x rest) (sym c.is) reads,
)

not-part : (d : Draft) (rest : List ℕ) → (d.part ≡ 3 → ⊥) → ReadsUnwritten d rest → ⊥
not-part d rest n r = n r.4

-- ---- the face

are-prefix : (xs ys : List FaceOutput) → are_named (xs ++ ys) ≡ true → are_named xs ≡ true
are-prefix [] ys h = refl
are-prefix (Named name ∷ xs) ys h = are-prefix xs ys h
are-prefix (Noted n ∷ xs) ys h = absurd (false≢true h)

notes-prefix : (labels : List FaceLabel) (xs ys : List FaceOutput) → notes_stand_first labels (xs ++ ys) ≡ true → notes_stand_first labels xs ≡ true
notes-prefix labels [] ys h = refl
notes-prefix labels (Named name ∷ xs) ys h = are-prefix xs ys h
notes-prefix labels (Noted n ∷ xs) ys h =
    let k = and_parts (is_some (verif_at labels n)) (notes_stand_first labels (xs ++ ys)) h in
    and_from (is_some (verif_at labels n)) (notes_stand_first labels xs) k.0 (notes-prefix labels xs ys k.1)

codes-append : (xs ys : List Coded) → codes_of (xs ++ ys) ≡ codes_of xs ++ codes_of ys
codes-append [] ys = refl
codes-append (x ∷ xs) ys = ap (λ l. x.code ∷ l) (codes-append xs ys)

not-again : (done xs : List Coded) (x : Coded) → AreDistinct (codes_of (done ++ x ∷ xs)) → has x.code (codes_of done) ≡ false
not-again done xs x d = false_from_ne_true (has x.code (codes_of done))
    (λ h. twice x.code (codes_of done) (codes_of xs) h (subst AreDistinct (codes-append done (x ∷ xs)) d))

behind-line : (line tail behind rest : List ℕ) → rest ≡ (line ++ tail) ++ behind → rest ≡ line ++ (tail ++ behind)
behind-line line tail behind rest e = e ∙ append_assoc line tail behind

pub came-inputs : (bytes rest behind : List ℕ) (slots n m : ℕ) (done xs all : List Coded) → Came bytes (face_so_far slots done [] []) n rest
    → rest ≡ flat_map input_line xs ++ behind → AllByRecursion IsRightInput xs → AreDistinct (codes_of all) → all ≡ done ++ xs → m ≡ n + length xs
    → Came bytes (face_so_far slots all [] []) m behind
came-inputs bytes rest behind slots n m done [] all c e r d a k =
    let same : all ≡ done = a ∙ append-nil done in
    let count : m ≡ n = omega (arith, k) in
    subst (λ l. Came bytes (face_so_far slots l [] []) m behind) (sym same) (subst (λ i. Came bytes (face_so_far slots done [] []) i behind) (sym count)
    (subst (Came bytes (face_so_far slots done [] []) n) e c))
came-inputs bytes rest behind slots n m done (x ∷ xs) all c e r d a k =
    let h = behind-line (input_line x) (flat_map input_line xs) behind rest e in
    let fresh : not (has x.code (codes_of done)) ≡ true = not_from_false (has x.code (codes_of done))
    (not-again done xs x (subst (λ l. AreDistinct (codes_of l)) a d)) in
    came-inputs bytes (flat_map input_line xs ++ behind) behind slots (suc n) m (done ++ x ∷ []) xs all
    (came-next bytes rest (flat_map input_line xs ++ behind) (face_so_far slots done [] []) n (an_input x) c r.0 fresh h) refl r.1 d (a
    ∙ sym (append_assoc done (x ∷ []) xs)) (omega (arith, k))

pub came-labels : (bytes rest behind : List ℕ) (slots n m : ℕ) (inputs : List Coded) (done xs all : List FaceLabel)
    → Came bytes (face_so_far slots inputs done []) n rest → rest ≡ flat_map label_line xs ++ behind → AllByRecursion IsRightLabel xs → all ≡ done ++ xs
    → m ≡ n + length xs → Came bytes (face_so_far slots inputs all []) m behind
came-labels bytes rest behind slots n m inputs done [] all c e r a k =
    let same : all ≡ done = a ∙ append-nil done in
    let count : m ≡ n = omega (arith, k) in
    subst (λ l. Came bytes (face_so_far slots inputs l []) m behind) (sym same) (subst (λ i. Came bytes (face_so_far slots inputs done []) i behind) (sym count)
    (subst (Came bytes (face_so_far slots inputs done []) n) e c))
came-labels bytes rest behind slots n m inputs done (x ∷ xs) all c e r a k =
    let h = behind-line (label_line x) (flat_map label_line xs) behind rest e in
    came-labels bytes (flat_map label_line xs ++ behind) behind slots (suc n) m inputs (done ++ x ∷ []) xs all
    (came-next bytes rest (flat_map label_line xs ++ behind) (face_so_far slots inputs done []) n (a_label x) c r.0 refl h) refl r.1 (a
    ∙ sym (append_assoc done (x ∷ []) xs)) (omega (arith, k))

pub came-outputs : (bytes rest behind : List ℕ) (slots n m : ℕ) (inputs : List Coded) (labels : List FaceLabel) (done xs all : List FaceOutput)
    → Came bytes (face_so_far slots inputs labels done) n rest → rest ≡ flat_map output_line xs ++ behind → AllByRecursion IsRightOutput xs
    → notes_stand_first labels all ≡ true → all ≡ done ++ xs → m ≡ n + length xs → Came bytes (face_so_far slots inputs labels all) m behind
came-outputs bytes rest behind slots n m inputs labels done [] all c e r f a k =
    let same : all ≡ done = a ∙ append-nil done in
    let count : m ≡ n = omega (arith, k) in
    subst (λ l. Came bytes (face_so_far slots inputs labels l) m behind) (sym same) (subst (λ i. Came bytes (face_so_far slots inputs labels done) i behind)
    (sym count) (subst (Came bytes (face_so_far slots inputs labels done) n) e c))
came-outputs bytes rest behind slots n m inputs labels done (x ∷ xs) all c e r f a k =
    let h = behind-line (output_line x) (flat_map output_line xs) behind rest e in
    let parts : all ≡ (done ++ x ∷ []) ++ xs = a ∙ sym (append_assoc done (x ∷ []) xs) in
    came-outputs bytes (flat_map output_line xs ++ behind) behind slots (suc n) m inputs labels (done ++ x ∷ []) xs all
    (came-next bytes rest (flat_map output_line xs ++ behind) (face_so_far slots inputs labels done) n (an_output x) c r.0
    (notes-prefix labels (done ++ x ∷ []) xs (subst (λ l. notes_stand_first labels l ≡ true) parts f)) h) refl r.1 f parts (omega (arith, k))

-- the state after the slot count
pub came-slots : (bytes rest : List ℕ) (slots : ℕ) → IsShort slots → bytes ≡ face_text slots [] [] [] rest → Came bytes (face_so_far slots [] [] []) 2 rest
came-slots bytes rest slots short e =
    came-next bytes (slots_line slots ++ rest) rest (stated blank version) 1 (slot_count slots)
    (came-next bytes bytes (slots_line slots ++ rest) blank 0 version (came-none bytes) tt refl e) short refl refl

-- the state after a face
pub came-face : (bytes rest : List ℕ) (slots n : ℕ) (inputs : List Coded) (labels : List FaceLabel) (outputs : List FaceOutput)
    → IsRightFace slots inputs labels outputs → bytes ≡ face_text slots inputs labels outputs rest → n ≡ length inputs + (length labels + (length outputs + 2))
    → Came bytes (face_so_far slots inputs labels outputs) n rest
came-face bytes rest slots n inputs labels outputs r e k =
    let one = came-slots bytes (flat_map input_line inputs ++ (flat_map label_line labels ++ (flat_map output_line outputs ++ rest))) slots r.slots_fit e in
    let two = came-inputs bytes _ (flat_map label_line labels ++ (flat_map output_line outputs ++ rest)) slots 2 (2 + length inputs) [] inputs inputs one refl
    r.right_inputs r.distinct refl refl in
    let three = came-labels bytes _ (flat_map output_line outputs ++ rest) slots (2 + length inputs) (2 + length inputs + length labels) inputs [] labels labels
    two refl r.right_labels refl refl in
    came-outputs bytes _ rest slots (2 + length inputs + length labels) n inputs labels [] outputs outputs three refl r.right_outputs r.first refl
    (omega (arith, k))
