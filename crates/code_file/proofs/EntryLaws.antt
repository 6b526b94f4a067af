-- Lines of a code file of any kind: a text begins with at most one line that may come next.
use Rattle.std.proofs.Common.{◌≡◌, ◌≢◌, ℕ, suc, true, false, cond, List, [], ◌∷◌, ◌++◌, length, take, Option, Some, refl, sym, ap, ◌∙◌, subst}
use Rattle.std.proofs.Common.{append_assoc}
use Rattle.std.specs.Prelude.{codes, fold}
use Rattle.std.specs.List.{flat_map}
use Rattle.std.specs.Option.{option_map}
use Rattle.std.specs.Str.{bytes_eq}
use Rattle.observables.specs.declared.face.FaceLabel.TheVariants.{Verif, DriverLine}
use Rattle.observables.specs.declared.face.FaceOutput.TheVariants.{Named, Noted}
use Rattle.reg_machine.specs.declared.instr.Instr.{Instr}
use Rattle.reg_machine.specs.declared.instr.Instr.TheVariants.{Take, Lit, Do, Store, Load, Check, Output}
use Rattle.reg_machine.proofs.TableLemmas.{none≢some, some-is}
use Rattle.code_file.specs.declared.fault.CodeFault.{CodeFault}
use Rattle.code_file.specs.declared.fault.CodeFault.TheVariants.{BadHeader, BadLine, BadOrder, Memory}
use Rattle.code_file.specs.Text.{slots_line, input_line, label_line, output_line, instr_line}
use Rattle.code_file.specs.Reading.{AreDue, Draft, Ends, Entry, IsCodeFault, IsEntry, ReadsUnwritten, Stops, version, slot_count, an_input, a_label, an_output}
use Rattle.code_file.specs.Reading.{code_start, an_instr, code_end, blank, draft_of, entry_line, stated}
use Rattle.code_file.specs.inner.Faces.{slots_of, input_of, label_of, output_of}
use Rattle.code_file.specs.inner.Spelled.{instr_of}
use Rattle.code_file.proofs.FaceLemmas.{slots-spelling, input-spelling, label-spelling, output-spelling, instr-spelling}
use Rattle.code_file.proofs.FrontLemmas.{Spells, cut-line}

-- ---- which line it is

data Kind : Type 0 where
  of_version : Kind
  of_slots : Kind
  of_input : Kind
  of_label : Kind
  of_output : Kind
  of_start : Kind
  of_instr : Kind
  of_end : Kind

-- the kind of a line, by its first bytes
abbrev kind_of : List ℕ → Kind
kind_of line =
    cond (bytes_eq (take 2 line) (codes "mc")) of_version
    (cond (bytes_eq (take 2 line) (codes "sl")) of_slots (cond (bytes_eq (take 3 line) (codes "inp")) of_input
    (cond (bytes_eq (take 2 line) (codes "la")) of_label
    (cond (bytes_eq (take 4 line) (codes "outp")) of_output (cond (bytes_eq (take 2 line) (codes "no")) of_output
    (cond (bytes_eq (take 3 line) (codes "cod")) of_start (cond (bytes_eq (take 2 line) (codes "en")) of_end of_instr)))))))

-- the entry of a line of this kind, without its line feed
abbrev entry_by : Kind → List ℕ → Option Entry
entry_by of_version body = Some version
entry_by of_slots body = option_map slot_count (slots_of body)
entry_by of_input body = option_map an_input (input_of body)
entry_by of_label body = option_map a_label (label_of body)
entry_by of_output body = option_map an_output (output_of body)
entry_by of_start body = Some code_start
entry_by of_instr body = option_map an_instr (instr_of body)
entry_by of_end body = Some code_end

abbrev entry_of : List ℕ → Option Entry
entry_of body = entry_by (kind_of (body ++ 10 ∷ [])) body

instr-kind : (i : Instr) → kind_of (instr_line i) ≡ of_instr
instr-kind (Take r n) = refl
instr-kind (Lit r v) = refl
instr-kind (Do op r a b c) = refl
instr-kind (Store k r) = refl
instr-kind (Load r k) = refl
instr-kind (Check g c false label) = refl
instr-kind (Check g c true label) = refl
instr-kind (Output k r) = refl

-- ---- each well-formed line has one entry

by-kind : {X : Type 0} (line : X → List ℕ) (of : List ℕ → Option X) (made : X → Entry) (kind : Kind) (x : X) → Spells line of x → kind_of (line x) ≡ kind
    → entry_line (made x) ≡ line x
    → ((body : List ℕ) → entry_by kind body ≡ option_map made (of body)) → Spells entry_line entry_of (made x)
by-kind line of made kind x s is same by = record {
  body = s.body;
  text = same ∙ s.text;
  free = s.free;
  reads = ap (λ l. entry_by (kind_of l) s.body) (sym s.text) ∙ ap (λ k. entry_by k s.body) is ∙ by s.body ∙ ap (option_map made) s.reads;
}

entry-spells : (entry : Entry) → IsEntry entry → Spells entry_line entry_of entry
entry-spells version h = record { body = codes "mcode 1"; text = refl; free = refl; reads = refl }
entry-spells (slot_count n) h = by-kind slots_line slots_of slot_count of_slots n (slots-spelling.complete n h) refl refl (λ body. refl)
entry-spells (an_input input) h = by-kind input_line input_of an_input of_input input (input-spelling.complete input h) refl refl (λ body. refl)
entry-spells (a_label (Verif label)) h = by-kind label_line label_of a_label of_label (Verif label) (label-spelling.complete (Verif label) h) refl refl
    (λ body. refl)
entry-spells (a_label (DriverLine line)) h = by-kind label_line label_of a_label of_label (DriverLine line) (label-spelling.complete (DriverLine line) h) refl
    refl (λ body. refl)
entry-spells (an_output (Named name)) h = by-kind output_line output_of an_output of_output (Named name) (output-spelling.complete (Named name) h) refl refl
    (λ body. refl)
entry-spells (an_output (Noted number)) h = by-kind output_line output_of an_output of_output (Noted number) (output-spelling.complete (Noted number) h) refl
    refl (λ body. refl)
entry-spells code_start h = record { body = codes "code"; text = refl; free = refl; reads = refl }
entry-spells (an_instr i) h = by-kind instr_line instr_of an_instr of_instr i (instr-spelling.complete i h) (instr-kind i) refl (λ body. refl)
entry-spells code_end h = record { body = codes "end"; text = refl; free = refl; reads = refl }

-- ---- a text begins with at most one line

one-front : (text behind other : List ℕ) (x y : Entry) → IsEntry x → IsEntry y → text ≡ entry_line x ++ behind → text ≡ entry_line y ++ other
    → (x ≡ y) × (behind ≡ other)
one-front text behind other x y h k e f =
    let s = entry-spells x h in
    let t = entry-spells y k in
    let same = some-is _ _ (sym (cut-line entry_line entry_of x s text behind e) ∙ cut-line entry_line entry_of y t text other f) in
    (some-is x y (sym s.reads ∙ ap (λ p. entry_of p.0) same ∙ t.reads), ap (λ p. p.1) same)

-- no line is empty
pub never-empty : (d : Draft) → Ends d []
never-empty d entry behind e h due = none≢some _ (cut-line entry_line entry_of entry (entry-spells entry h) [] behind e)

-- two maximal lists of valid entries of one text are equal
pub same-stops : (d : Draft) (es fs : List Entry) (rest left : List ℕ) → flat_map entry_line es ++ rest ≡ flat_map entry_line fs ++ left
    → AreDue d es → AreDue d fs → Ends (fold stated d es) rest → Ends (fold stated d fs) left
    → (es ≡ fs) × (rest ≡ left)
same-stops d [] [] rest left e a b s t = (refl, e)
same-stops d [] (f ∷ fs) rest left e a b s t =
    absurd (s f (flat_map entry_line fs ++ left) (e ∙ append_assoc (entry_line f) (flat_map entry_line fs) left) b.0 b.1)
same-stops d (x ∷ es) [] rest left e a b s t =
    absurd (t x (flat_map entry_line es ++ rest) (sym e ∙ append_assoc (entry_line x) (flat_map entry_line es) rest) a.0 a.1)
same-stops d (x ∷ es) (f ∷ fs) rest left e a b s t =
    let u = one-front (flat_map entry_line (x ∷ es) ++ rest) (flat_map entry_line es ++ rest) (flat_map entry_line fs ++ left) x f a.0 b.0
    (append_assoc (entry_line x) (flat_map entry_line es) rest) (e ∙ append_assoc (entry_line f) (flat_map entry_line fs) left) in
    let b' : AreDue (stated d x) fs = subst (λ (y : Entry). AreDue (stated d y) fs) (sym u.0) b.2 in
    let t' : Ends (fold stated (stated d x) fs) left = subst (λ (y : Entry). Ends (fold stated (stated d y) fs) left) (sym u.0) t in
    let r = same-stops (stated d x) es fs rest left u.1 a.2 b' s t' in
    (λ i. u.0 i ∷ r.0 i, r.1)

one-stop : (bytes : List ℕ) (es fs : List Entry) (rest left : List ℕ) → Stops bytes es rest → Stops bytes fs left → (es ≡ fs) × (rest ≡ left)
one-stop bytes es fs rest left s t = same-stops blank es fs rest left (sym s.text ∙ t.text) s.due t.due s.ends t.ends

-- the lines before a fault are maximal
pub fault-stops : (bytes : List ℕ) (fault : CodeFault) → IsCodeFault bytes fault → (es : List Entry) × (rest : List ℕ) × Stops bytes es rest
fault-stops bytes BadHeader f = ([], bytes, f)
fault-stops bytes (BadLine n) f = (f.0, f.1, f.2)
fault-stops bytes (BadOrder n) f = (f.0, f.1, f.2)
fault-stops bytes Memory f = absurd f

-- ---- one fault

unwritten-moved : (es fs : List Entry) (rest left : List ℕ) → es ≡ fs → rest ≡ left → ReadsUnwritten (draft_of fs) left → ReadsUnwritten (draft_of es) rest
unwritten-moved es fs rest left e r h =
    subst (λ (x : List ℕ). ReadsUnwritten (draft_of es) x) (sym r) (subst (λ (x : List Entry). ReadsUnwritten (draft_of x) left) (sym e) h)

-- before the first line no instruction is read
no-start : (fs : List Entry) (left : List ℕ) → [] ≡ fs → ReadsUnwritten (draft_of fs) left → ⊥
no-start fs left e h = let p : 0 ≡ 3 = ap {A = List Entry} {B = ℕ} (λ l. (draft_of l).part) e ∙ h.4 in cc p

-- a text has one first fault
pub one-fault : (bytes : List ℕ) (fault other : CodeFault) → IsCodeFault bytes fault → IsCodeFault bytes other → fault ≡ other
one-fault bytes BadHeader BadHeader a b = refl
one-fault bytes BadHeader (BadLine n) a b = absurd (b.3 (sym (one-stop bytes [] b.0 bytes b.1 a b.2).0))
one-fault bytes BadHeader (BadOrder n) a b = absurd (no-start b.0 b.1 (one-stop bytes [] b.0 bytes b.1 a b.2).0 b.4)
one-fault bytes (BadLine n) BadHeader a b = absurd (a.3 (one-stop bytes a.0 [] a.1 bytes a.2 b).0)
one-fault bytes (BadLine n) (BadLine l) a b = ap BadLine (a.4 ∙ ap (λ (x : List Entry). suc (length x)) (one-stop bytes a.0 b.0 a.1 b.1 a.2 b.2).0 ∙ sym b.4)
one-fault bytes (BadLine n) (BadOrder l) a b = let same = one-stop bytes a.0 b.0 a.1 b.1 a.2 b.2 in absurd
    (a.5 (unwritten-moved a.0 b.0 a.1 b.1 same.0 same.1 b.4))
one-fault bytes (BadOrder n) BadHeader a b = absurd (no-start a.0 a.1 (one-stop bytes [] a.0 bytes a.1 b a.2).0 a.4)
one-fault bytes (BadOrder n) (BadLine l) a b = let same = one-stop bytes b.0 a.0 b.1 a.1 b.2 a.2 in absurd
    (b.5 (unwritten-moved b.0 a.0 b.1 a.1 same.0 same.1 a.4))
one-fault bytes (BadOrder n) (BadOrder l) a b = ap BadOrder (a.3 ∙ ap (λ (x : List Entry). suc (length x)) (one-stop bytes a.0 b.0 a.1 b.1 a.2 b.2).0 ∙ sym b.3)
one-fault bytes Memory other a b = absurd a
one-fault bytes BadHeader Memory a b = absurd b
one-fault bytes (BadLine n) Memory a b = absurd b
one-fault bytes (BadOrder n) Memory a b = absurd b
