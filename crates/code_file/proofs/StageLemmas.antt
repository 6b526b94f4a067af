-- The steps of the reader: each fault is the first one, and at the end the text is the form of the
-- result.
use Rattle.std.proofs.Common.{◌≡◌, ◌<◌, ◌≤◌, ◌+◌, ◌==◌, ◌&&◌, ℕ, zero, suc, true, not, is_some, is_none, List, [], ◌∷◌, ◌++◌, length, take, drop, get_or, fold}
use Rattle.std.proofs.Common.{codes, Some, None, refl, sym, ap, ◌∙◌, subst, arith, append_assoc, length-append}
use Rattle.std.specs.List.{AllByRecursion, flat_map}
use Rattle.std.proofs.lemmas.Bool.{and_parts, true≢false, false≢true, eqb-true}
use Rattle.std.proofs.lemmas.List.{take-append-drop, drop_more}
use Rattle.reg_machine.proofs.TableLemmas.{none≢some, some-is}
use Rattle.reg_machine.specs.declared.instr.Instr.{Instr}
use Rattle.reg_machine.specs.Flow.{Listing, reading, with_instr, code_fault}
use Rattle.m_names.specs.Names.{has, AreDistinct}
use Rattle.observables.specs.declared.inputs.Coded.{Coded}
use Rattle.observables.specs.declared.face.FaceLabel.{FaceLabel}
use Rattle.observables.specs.declared.face.FaceLabel.TheVariants.{Verif, DriverLine}
use Rattle.observables.specs.declared.face.FaceOutput.{FaceOutput}
use Rattle.observables.specs.declared.face.FaceOutput.TheVariants.{Named, Noted}
use Rattle.observables.specs.declared.face.Face.{Face}
use Rattle.observables.specs.Inputs.{codes_of}
use Rattle.code_file.specs.declared.fault.CodeFault.TheVariants.{BadHeader, BadLine}
use Rattle.code_file.specs.Text.{slots_line, input_line, label_line, output_line, instr_line}
use Rattle.code_file.specs.Reading.{Entry, version, slot_count, an_input, a_label, an_output, code_start, an_instr, code_end, entry_line, IsInstr, IsShort}
use Rattle.code_file.specs.Reading.{Draft, blank, stated, Ends, IsCodeFault}
use Rattle.code_file.specs.inner.Spelled.{cut}
use Rattle.code_file.specs.inner.Faces.{IsRightInput, IsRightLabel, IsNoFront, IsRun, AreOutputs, IsAgain, input_of}
use Rattle.code_file.specs.inner.Came.{Came, face_so_far, code_so_far, EndsFace, IsCodeSoFar, face_text, text_so_far, IsRightFace}
use Rattle.code_file.proofs.FaceLemmas.{input-spelling}
use Rattle.code_file.proofs.FrontLemmas.{cut-line, lines-append}
use Rattle.code_file.proofs.CutLemmas.{lacks, cut-at, cut-parts}
use Rattle.code_file.proofs.CameLemmas.{came-none, came-next, came-slots, came-inputs, came-face, came-long, fault-line, lines-long, entry-long}

-- ---- lines of one word

pub word-line : (text line behind word : List ℕ) → cut 10 text ≡ Some (line, behind) → line ≡ word → text ≡ word ++ 10 ∷ behind
word-line text line behind word e w = (cut-parts 10 text (line, behind) e).whole ∙ ap (λ l. l ++ 10 ∷ behind) w

pub no-word : (text word : List ℕ) → cut 10 text ≡ None → lacks 10 word ≡ true → (more : List ℕ) → text ≡ word ++ 10 ∷ more → ⊥
no-word text word e free more h = none≢some _ (sym e ∙ ap (cut 10) h ∙ cut-at 10 word more free)

pub other-word : (text line behind word : List ℕ) → cut 10 text ≡ Some (line, behind) → (line ≡ word → ⊥) → lacks 10 word ≡ true → (more : List ℕ)
    → text ≡ word ++ 10 ∷ more → ⊥
other-word text line behind word e other free more h = other (ap (λ p. p.0) (some-is _ _ (sym e ∙ ap (cut 10) h ∙ cut-at 10 word more free)))

-- ---- the first two lines

pub header-fault : (bytes : List ℕ) → ((more : List ℕ) → bytes ≡ codes "mcode 1\n" ++ more → ⊥) → IsCodeFault bytes BadHeader
header-fault bytes other = record { text = refl; due = tt; ends = ends; open_end = λ p. absurd (omega (arith, p)) }
  where
    ends : Ends blank bytes
    ends version behind h i t = other behind h
    ends (slot_count n) behind h i t = false≢true t
    ends (an_input x) behind h i t = false≢true t
    ends (a_label x) behind h i t = false≢true t
    ends (an_output x) behind h i t = false≢true t
    ends code_start behind h i t = false≢true t
    ends (an_instr x) behind h i t = false≢true t
    ends code_end behind h i t = false≢true t

pub slots-fault : (bytes rest : List ℕ) (m : ℕ) → bytes ≡ codes "mcode 1\n" ++ rest → IsNoFront slots_line IsShort rest → m ≡ 2 → IsCodeFault bytes (BadLine m)
slots-fault bytes rest m e other k =
    fault-line bytes rest (stated blank version) 1 m (came-next bytes bytes rest blank 0 version (came-none bytes) tt refl e) (omega arith) ends
    (λ p. absurd (omega (arith, p))) (λ r. omega (arith, r.4)) (omega (arith, k))
  where
    ends : Ends (stated blank version) rest
    ends version behind h i t = false≢true t
    ends (slot_count n) behind h i t = other n behind i h
    ends (an_input x) behind h i t = false≢true t
    ends (a_label x) behind h i t = false≢true t
    ends (an_output x) behind h i t = false≢true t
    ends code_start behind h i t = false≢true t
    ends (an_instr x) behind h i t = false≢true t
    ends code_end behind h i t = false≢true t

-- ---- the face

-- the number of inputs fits 32 bits, since the text has a line for each
pub few-inputs : (bytes rest behind : List ℕ) (slots : ℕ) (xs : List Coded) → bytes ≡ face_text slots [] [] [] rest → rest ≡ flat_map input_line xs ++ behind
    → length xs ≤ length bytes
few-inputs bytes rest behind slots xs e h =
    omega (
      arith,
      ap length e,
      length-append (slots_line slots) rest,
      ap length h,
      length-append (flat_map input_line xs) behind,
      lines-long input_line xs
          (λ x. omega arith),
    )

input-one : (text behind more : List ℕ) (x y : Coded) → IsRightInput x → IsRightInput y → text ≡ input_line x ++ behind → text ≡ input_line y ++ more → x ≡ y
input-one text behind more x y a b e h =
    let s = input-spelling.complete x a in
    let t = input-spelling.complete y b in
    let same = some-is _ _ (sym (cut-line input_line input_of x s text behind e) ∙ cut-line input_line input_of y t text more h) in
    some-is x y (sym s.reads ∙ ap (λ p. input_of p.0) same ∙ t.reads)

all-take : {X : Type 0} (P : X → Type 0) (xs : List X) (k : ℕ) → AllByRecursion P xs → AllByRecursion P (take k xs)
all-take P [] zero h = tt
all-take P [] (suc k) h = tt
all-take P (x ∷ xs) zero h = tt
all-take P (x ∷ xs) (suc k) h = (h.0, all-take P xs k h.1)

all-at : {X : Type 0} (P : X → Type 0) (xs ys zs : List X) (x : X) → AllByRecursion P xs → xs ≡ ys ++ x ∷ zs → P x
all-at P xs [] zs x h e = (subst (AllByRecursion P) e h).0
all-at P [] (y ∷ ys) zs x h e = absurd (omega (arith, ap length e))
all-at P (w ∷ xs) (y ∷ ys) zs x h e = all-at P xs ys zs x h.1 (ap (drop 1) e)

codes-take : (xs : List Coded) (k : ℕ) → codes_of (take k xs) ≡ take k (codes_of xs)
codes-take [] zero = refl
codes-take [] (suc k) = refl
codes-take (x ∷ xs) zero = refl
codes-take (x ∷ xs) (suc k) = ap (λ l. x.code ∷ l) (codes-take xs k)

pub length-codes : (xs : List Coded) → length (codes_of xs) ≡ length xs
length-codes [] = refl
length-codes (x ∷ xs) = omega (arith, length-codes xs)

code-at : (xs : List Coded) (k : ℕ) (d : Coded) → k < length xs → (get_or xs k d).code ≡ get_or (codes_of xs) k []
code-at [] k d lt = absurd (omega arith)
code-at (y ∷ xs) zero d lt = refl
code-at (y ∷ xs) (suc k) d lt = code-at xs k d (omega arith)

-- after these inputs comes the line of an input with a duplicate code
again-ends : (slots : ℕ) (front : List Coded) (x : Coded) (text tail : List ℕ) → IsRightInput x → has x.code (codes_of front) ≡ true
    → text ≡ input_line x ++ tail → Ends (face_so_far slots front [] []) text
again-ends slots front x text tail r h e version behind q i t = false≢true t
again-ends slots front x text tail r h e (slot_count n) behind q i t = false≢true t
again-ends slots front x text tail r h e (an_input y) behind q i t =
    let same = input-one text behind tail y x i r q e in
    true≢false (sym t ∙ ap not (ap (λ z. has z.code (codes_of front)) same ∙ h))
again-ends slots front x text tail r h e (a_label (Verif label)) behind q i t = omega (arith, ap (λ l. get_or l 0 0) (sym e ∙ q))
again-ends slots front x text tail r h e (a_label (DriverLine n)) behind q i t = omega (arith, ap (λ l. get_or l 0 0) (sym e ∙ q))
again-ends slots front x text tail r h e (an_output (Named name)) behind q i t = omega (arith, ap (λ l. get_or l 0 0) (sym e ∙ q))
again-ends slots front x text tail r h e (an_output (Noted n)) behind q i t = omega (arith, ap (λ l. get_or l 0 0) (sym e ∙ q))
again-ends slots front x text tail r h e code_start behind q i t = omega (arith, ap (λ l. get_or l 0 0) (sym e ∙ q))
again-ends slots front x text tail r h e (an_instr i') behind q i t = false≢true t
again-ends slots front x text tail r h e code_end behind q i t = false≢true t

again-at : (bytes rest behind : List ℕ) (slots k m : ℕ) (xs front zs : List Coded) (x : Coded) → IsShort slots → bytes ≡ face_text slots [] [] [] rest
    → rest ≡ flat_map input_line xs ++ behind → xs ≡ front ++ x ∷ zs → length front ≡ k
    → AllByRecursion IsRightInput front → IsRightInput x → AreDistinct (codes_of front) → has x.code (codes_of front) ≡ true → m ≡ k + 3
    → IsCodeFault bytes (BadLine m)
again-at bytes rest behind slots k m xs front zs x short e h parts len all right distinct again q =
    let tail = flat_map input_line zs ++ behind in
    let text : rest ≡ flat_map input_line front ++ (input_line x ++ tail) =
    h ∙ ap (λ l. flat_map input_line l ++ behind) parts ∙ ap (λ l. l ++ behind) (lines-append input_line front (x ∷ zs))
    ∙ append_assoc (flat_map input_line front) (flat_map input_line (x ∷ zs)) behind
    ∙ ap (λ l. flat_map input_line front ++ l) (append_assoc (input_line x) (flat_map input_line zs) behind) in
    let came = came-inputs bytes rest (input_line x ++ tail) slots 2 (2 + length front) [] front front (came-slots bytes rest slots short e) text all distinct
    refl refl in
    fault-line bytes (input_line x ++ tail) (face_so_far slots front [] []) (2 + length front) m came (omega arith)
    (again-ends slots front x (input_line x ++ tail) tail right again refl) (λ p. absurd (omega (arith, p))) (λ r. omega (arith, r.4)) (omega (arith, q, len))

length-take-of : {X : Type 0} (k : ℕ) (xs : List X) → k ≤ length xs → length (take k xs) ≡ k
length-take-of zero xs h = take-zero xs
  where
    take-zero : {X : Type 0} (xs : List X) → length (take 0 xs) ≡ 0
    take-zero [] = refl
    take-zero (x ∷ xs) = refl
length-take-of (suc k) [] h = absurd (omega arith)
length-take-of (suc k) (x ∷ xs) h = omega (arith, length-take-of k xs (omega arith))

-- an input with a duplicate code is the first fault
pub again-fault : (bytes rest behind : List ℕ) (slots k m : ℕ) (xs : List Coded) → IsShort slots → bytes ≡ face_text slots [] [] [] rest
    → rest ≡ flat_map input_line xs ++ behind → AllByRecursion IsRightInput xs → IsAgain (codes_of xs) k → m ≡ k + 3 → IsCodeFault bytes (BadLine m)
again-fault bytes rest behind slots k m [] short e h r a q = absurd (omega (arith, a.within))
again-fault bytes rest behind slots k m (d ∷ ds) short e h r a q =
    let xs = d ∷ ds in
    let lt : k < length xs = omega (arith, a.within, length-codes xs) in
    let parts : xs ≡ take k xs ++ get_or xs k d ∷ drop (k + 1) xs = sym (take-append-drop k xs) ∙ ap (λ l. take k xs ++ l) (drop_more xs k d lt) in
    again-at bytes rest behind slots k m xs (take k xs) (drop (k + 1) xs) (get_or xs k d) short e h parts (length-take-of k xs (omega (arith, lt)))
    (all-take IsRightInput xs k r) (all-at IsRightInput xs (take k xs) (drop (k + 1) xs) (get_or xs k d) r parts)
    (subst AreDistinct (sym (codes-take xs k)) a.distinct) ((λ j. has (code-at xs k d lt j) (codes-take xs k j)) ∙ a.again) q

pub nothing : {X : Type 0} (xs : List X) → (length xs == 0) ≡ true → xs ≡ []
nothing [] h = refl
nothing (x ∷ xs) h = absurd (omega (arith, eqb-true (length (x ∷ xs)) 0 h))

-- after a face only `code` may come
pub face-ends : (slots : ℕ) (inputs : List Coded) (labels : List FaceLabel) (outputs : List FaceOutput) (rest middle behind : List ℕ)
    → IsNoFront input_line IsRightInput rest → IsRun label_line IsRightLabel rest labels middle → AreOutputs labels middle outputs behind
    → EndsFace (face_so_far slots inputs labels outputs) behind
face-ends slots inputs labels outputs rest middle behind other l o version more h i t = absurd (false≢true t)
face-ends slots inputs labels outputs rest middle behind other l o (slot_count n) more h i t = absurd (false≢true t)
face-ends slots inputs labels outputs rest middle behind other l o (an_input x) more h i t =
    let k = and_parts (length labels == 0) ((length outputs == 0) && not (has x.code (codes_of inputs))) t in
    let k' = and_parts (length outputs == 0) (not (has x.code (codes_of inputs))) k.1 in
    absurd (other x more i (l.whole ∙ ap (λ xs. flat_map label_line xs ++ middle) (nothing labels k.0) ∙ o.whole
    ∙ ap (λ xs. flat_map output_line xs ++ behind) (nothing outputs k'.0) ∙ h))
face-ends slots inputs labels outputs rest middle behind other l o (a_label x) more h i t =
    absurd (l.ends x more i (o.whole ∙ ap (λ xs. flat_map output_line xs ++ behind) (nothing outputs t) ∙ h))
face-ends slots inputs labels outputs rest middle behind other l o (an_output x) more h i t = absurd (o.ends x more (i, t) h)
face-ends slots inputs labels outputs rest middle behind other l o code_start more h i t = refl
face-ends slots inputs labels outputs rest middle behind other l o (an_instr x) more h i t = absurd (false≢true t)
face-ends slots inputs labels outputs rest middle behind other l o code_end more h i t = absurd (false≢true t)

-- the text of a face with its labels and outputs
pub face-whole : (bytes rest middle behind : List ℕ) (slots : ℕ) (inputs : List Coded) (labels : List FaceLabel) (outputs : List FaceOutput)
    → bytes ≡ face_text slots inputs [] [] rest → rest ≡ flat_map label_line labels ++ middle → middle ≡ flat_map output_line outputs ++ behind
    → bytes ≡ face_text slots inputs labels outputs behind
face-whole bytes rest middle behind slots inputs labels outputs e l o =
    e ∙ ap (λ t. codes "mcode 1\n" ++ (slots_line slots ++ (flat_map input_line inputs ++ t))) (l ∙ ap (λ t. flat_map label_line labels ++ t) o)

-- the text of a face with its inputs
pub face-begun : (bytes rest behind : List ℕ) (slots : ℕ) (inputs : List Coded) → bytes ≡ face_text slots [] [] [] rest
    → rest ≡ flat_map input_line inputs ++ behind → bytes ≡ face_text slots inputs [] [] behind
face-begun bytes rest behind slots inputs e h = e ∙ ap (λ t. codes "mcode 1\n" ++ (slots_line slots ++ t)) h

-- another line than `code` after a face is the first fault
pub start-fault : (bytes rest : List ℕ) (slots m : ℕ) (inputs : List Coded) (labels : List FaceLabel) (outputs : List FaceOutput)
    → IsRightFace slots inputs labels outputs → bytes ≡ face_text slots inputs labels outputs rest → EndsFace (face_so_far slots inputs labels outputs) rest
    → ((more : List ℕ) → rest ≡ codes "code\n" ++ more → ⊥) → m ≡ length inputs + (length labels + (length outputs + 3)) → IsCodeFault bytes (BadLine m)
start-fault bytes rest slots m inputs labels outputs r e ends other k =
    fault-line bytes rest (face_so_far slots inputs labels outputs) (length inputs + (length labels + (length outputs + 2))) m
    (came-face bytes rest slots _ inputs labels outputs r e refl) (omega arith)
    (λ entry more h i t. other more (subst (λ x. rest ≡ entry_line x ++ more) (ends entry more h i t) h)) (λ p. absurd (omega (arith, p)))
    (λ u. omega (arith, u.4)) (omega (arith, k))

-- ---- instructions

pub start-came : (bytes rest behind : List ℕ) (slots m : ℕ) (face : Face) → IsRightFace slots face.inputs face.labels face.outputs
    → bytes ≡ face_text slots face.inputs face.labels face.outputs rest → rest ≡ codes "code\n" ++ behind
    → m ≡ length face.inputs + (length face.labels + (length face.outputs + 3)) → Came bytes (code_so_far slots face []) m behind
start-came bytes rest behind slots m face r e h k =
    let count : m ≡ suc (length face.inputs + (length face.labels + (length face.outputs + 2))) = omega (arith, k) in
    subst (λ n. Came bytes (code_so_far slots face []) n behind) (sym count)
    (came-next bytes rest behind (face_so_far slots face.inputs face.labels face.outputs) _ code_start
    (came-face bytes rest slots _ face.inputs face.labels face.outputs r e refl) tt refl h)

pub code-ends : (slots : ℕ) (face : Face) (code : Listing) (rest : List ℕ) → IsCodeSoFar slots face code
    → ((i : Instr) (more : List ℕ) → IsInstr i → rest ≡ instr_line i ++ more → is_some (reading (with_instr code i)) ≡ true → ⊥)
    → ((more : List ℕ) → rest ≡ codes "end\n" ++ more → is_none (code_fault code) ≡ true → ⊥)
    → Ends (code_so_far slots face code.instrs) rest
code-ends slots face code rest k ni ne version more h i t = false≢true t
code-ends slots face code rest k ni ne (slot_count n) more h i t = false≢true t
code-ends slots face code rest k ni ne (an_input x) more h i t = false≢true t
code-ends slots face code rest k ni ne (a_label x) more h i t = false≢true t
code-ends slots face code rest k ni ne (an_output x) more h i t = false≢true t
code-ends slots face code rest k ni ne code_start more h i t = false≢true t
code-ends slots face code rest k ni ne (an_instr x) more h i t = ni x more i h (ap (λ c. is_some (reading (with_instr c x))) k.is ∙ t)
code-ends slots face code rest k ni ne code_end more h i t = ne more h (ap (λ c. is_none (code_fault c)) k.is ∙ t)

pub none-there : (es : List Entry) → length es ≡ 0 → es ≡ []
none-there [] h = refl
none-there (e ∷ es) h = absurd (omega (arith, h))

pub some-came : (bytes rest : List ℕ) (d : Draft) (n : ℕ) → d.part ≡ 3 → Came bytes d n rest → 0 < n
some-came bytes rest d zero p c = absurd (omega (arith, p, ap (λ x. x.part) (sym c.is ∙ ap (fold stated blank) (none-there c.entries c.count))))
some-came bytes rest d (suc n) p c = omega arith

-- a line that is neither an instruction nor `end` is the first fault
pub other-fault : (bytes rest : List ℕ) (slots n m : ℕ) (face : Face) (code : Listing) → Came bytes (code_so_far slots face code.instrs) n rest
    → IsCodeSoFar slots face code → IsNoFront instr_line IsInstr rest → ((more : List ℕ) → rest ≡ codes "end\n" ++ more → is_none (code_fault code) ≡ true → ⊥)
    → m ≡ suc n → IsCodeFault bytes (BadLine m)
other-fault bytes rest slots n m face code c k ni ne q =
    fault-line bytes rest (code_so_far slots face code.instrs) n m c (some-came bytes rest (code_so_far slots face code.instrs) n refl c)
    (code-ends slots face code rest k (λ i more r h t. ni i more r h) ne) (λ p. absurd (omega (arith, p))) (λ u. ni u.0 u.1 u.3 u.2) q

pub shorter : (text line behind : List ℕ) → cut 10 text ≡ Some (line, behind) → length behind < length text
shorter text line behind e = omega (arith, ap length (cut-parts 10 text (line, behind) e).whole, length-append line (10 ∷ behind))

-- a line isn't empty, which bounds the number of instructions
instr-long : (i : Instr) → 0 < length (instr_line i)
instr-long i = entry-long (an_instr i)

pub few-instrs : (bytes rest : List ℕ) (slots : ℕ) (face : Face) (instrs : List Instr) → bytes ≡ text_so_far slots face instrs rest
    → length instrs ≤ length bytes
few-instrs bytes rest slots face instrs e =
    let last = flat_map instr_line instrs ++ rest in
    let c = codes "code\n" ++ last in
    let o = flat_map output_line face.outputs ++ c in
    let l = flat_map label_line face.labels ++ o in
    omega (
      arith,
      ap length e,
      length-append (slots_line slots) (flat_map input_line face.inputs ++ l),
      length-append (flat_map input_line face.inputs) l,
      length-append (flat_map label_line face.labels) o,
      length-append (flat_map output_line face.outputs) c,
      length-append (flat_map instr_line instrs) rest,
      lines-long instr_line instrs instr-long,
    )

-- the numbers of labels and outputs fit 32 bits
pub few-labels : (bytes rest : List ℕ) (slots : ℕ) (inputs : List Coded) (labels : List FaceLabel) (outputs : List FaceOutput)
    → IsRightFace slots inputs labels outputs → bytes ≡ face_text slots inputs labels outputs rest
    → length inputs + (length labels + (length outputs + 2)) ≤ length bytes
few-labels bytes rest slots inputs labels outputs r e = came-long bytes rest (face_so_far slots inputs labels outputs)
    (length inputs + (length labels + (length outputs + 2))) (came-face bytes rest slots _ inputs labels outputs r e refl)
