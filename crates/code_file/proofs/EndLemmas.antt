-- The instructions of a code file, and its end.
use Rattle.std.proofs.Common.{◌≡◌, ◌≢◌, ◌<◌, ◌+◌, ℕ, zero, suc, Bool, false, true, not, cond, is_some, is_none, List, [], ◌∷◌, ◌++◌, length, get_or, codes}
use Rattle.std.proofs.Common.{Option, Some, None, refl, sym, ap, ◌∙◌, subst, arith, append_assoc, bytes_eq}
use Rattle.std.specs.List.{AllByRecursion, flat_map}
use Rattle.std.specs.Option.{option_and_then}
use Rattle.std.proofs.lemmas.Bool.{or_parts, true≢false, false≢true}
use Rattle.std.proofs.lemmas.List.Sums.{fold-append}
use Rattle.std.proofs.lemmas.Slice.Eq.{bytes_eq-Decides}
use Rattle.reg_machine.proofs.TableLemmas.{none≢some, some-is}
use Rattle.reg_machine.specs.declared.instr.Instr.{Instr}
use Rattle.reg_machine.specs.declared.wrong.Wrong.{Wrong}
use Rattle.reg_machine.specs.declared.wrong.Wrong.TheVariants.{Number, Order}
use Rattle.reg_machine.specs.declared.wrong.CodeWrong.{CodeWrong}
use Rattle.reg_machine.specs.Flow.{Listing, State, step, start, reading, with_instr, wrong_behind, has_numbers, moved, code_fault}
use Rattle.reg_machine.proofs.BuilderLemmas.{right-parts, reads-on, wrong-is}
use Rattle.m_names.specs.Names.{has, AreDistinct}
use Rattle.observables.specs.declared.inputs.Coded.{Coded}
use Rattle.observables.specs.declared.face.FaceLabel.{FaceLabel}
use Rattle.observables.specs.declared.face.FaceOutput.{FaceOutput}
use Rattle.observables.specs.declared.face.Face.{Face}
use Rattle.observables.specs.Inputs.{codes_of}
use Rattle.code_file.specs.declared.fault.CodeFault.TheVariants.{BadLine}
use Rattle.code_file.specs.declared.loaded.Loaded.{Loaded}
use Rattle.code_file.specs.Text.{instr_line}
use Rattle.code_file.specs.Printable.{IsFreeWord, IsPrintable, IsPrintableLabel, IsPrintableOutput, AreApart}
use Rattle.code_file.specs.Reading.{version, slot_count, an_input, a_label, an_output, code_start, an_instr, code_end, IsInstr, IsShort, IsFittingLabel}
use Rattle.code_file.specs.Reading.{IsFittingOutput, Draft, stated, Ends, IsCodeFault, IsFormOf}
use Rattle.code_file.specs.inner.Spelled.{cut, instr_of}
use Rattle.code_file.specs.inner.Faces.{IsRightInput, IsRightLabel, IsRightOutput, IsNoFront}
use Rattle.code_file.specs.inner.Came.{Came, code_so_far, code_with, IsCodeSoFar, text_so_far, IsRightFace, fault_of}
use Rattle.code_file.proofs.FaceLemmas.{instr-spelling}
use Rattle.code_file.proofs.InstrLemmas.{instr-sound}
use Rattle.code_file.proofs.FrontLemmas.{cut-line, lines-push, all-push}
use Rattle.code_file.proofs.CutLemmas.{cut-at, cut-parts}
use Rattle.code_file.proofs.CameLemmas.{came-next, fault-line, fault-order}
use Rattle.code_file.proofs.StageLemmas.{other-word, code-ends, other-fault, some-came}

-- ---- comparisons of words

pub is-word : (line word : List ℕ) (b : Bool) → b ≡ bytes_eq line word → b ≡ true → line ≡ word
is-word line word b e h = (bytes_eq-Decides line word).0 (sym e ∙ h)

pub isnt-word : (line word : List ℕ) (b : Bool) → b ≡ bytes_eq line word → b ≡ false → line ≡ word → ⊥
isnt-word line word b e h w = true≢false (sym ((bytes_eq-Decides line word).1 w) ∙ sym e ∙ h)

not-false-is : (b : Bool) → not b ≡ false → b ≡ true
not-false-is true h = refl
not-false-is false h = sym h

not-true-is : (b : Bool) → not b ≡ true → b ≡ false
not-true-is true h = sym h
not-true-is false h = refl

pub ne-same : (line word : List ℕ) (b : Bool) → b ≡ not (bytes_eq line word) → b ≡ false → line ≡ word
ne-same line word b e h = (bytes_eq-Decides line word).0 (not-false-is (bytes_eq line word) (sym e ∙ h))

pub ne-other : (line word : List ℕ) (b : Bool) → b ≡ not (bytes_eq line word) → b ≡ true → line ≡ word → ⊥
ne-other line word b e h w = true≢false (sym ((bytes_eq-Decides line word).1 w) ∙ not-true-is (bytes_eq line word) (sym e ∙ h))

-- ---- an instruction

fails-by : (b : Bool) (o : Option State) (w : Wrong) → cond b (cond (is_none o) (Some Order) None) (Some Number) ≡ Some w → is_some (cond b o None) ≡ true → ⊥
fails-by true None w h t = false≢true t
fails-by true (Some s) w h t = none≢some w h
fails-by false o w h t = false≢true t

-- after an invalid instruction `reading` fails
read-fails : (code : Listing) (i : Instr) (s : State) (w : Wrong) → reading code ≡ Some s → wrong_behind code i ≡ Some w
    → is_some (reading (with_instr code i)) ≡ true → ⊥
read-fails code i s w e h t =
    let same : reading (with_instr code i) ≡ step code.counts i s =
    fold-append (λ s i. option_and_then (step code.counts i) s) (Some (start code.counts.outputs)) code.instrs (i ∷ [])
    ∙ ap (option_and_then (step code.counts i)) e in
    fails-by (has_numbers code.counts s i) (moved i s) w (sym (wrong-is code i s e) ∙ h) (sym (ap is_some same) ∙ t)

instr-one : (rest text behind more : List ℕ) (i j : Instr) → cut 10 rest ≡ Some (text, behind) → instr_of text ≡ Some i → IsInstr j
    → rest ≡ instr_line j ++ more → j ≡ i
instr-one rest text behind more i j e o r h =
    let s = instr-spelling.complete j r in
    let same = some-is _ _ (sym (cut-line instr_line instr_of j s rest more h) ∙ e) in
    some-is j i (sym s.reads ∙ ap (λ p. instr_of p.0) same ∙ o)

instr-is-right : (text : List ℕ) (i : Instr) → instr_of text ≡ Some i → IsInstr i
instr-is-right text i o = (instr-sound text i o).right

-- the instruction of the first line
pub instr-front : (rest text behind : List ℕ) (i : Instr) → cut 10 rest ≡ Some (text, behind) → instr_of text ≡ Some i → rest ≡ instr_line i ++ behind
instr-front rest text behind i e o =
    (cut-parts 10 rest (text, behind) e).whole ∙ sym (ap (λ l. l ++ behind) (instr-spelling.sound text i o (instr-is-right text i o))
    ∙ append_assoc text (10 ∷ []) behind)

pub instr-none : (rest text behind : List ℕ) → cut 10 rest ≡ Some (text, behind) → instr_of text ≡ None → IsNoFront instr_line IsInstr rest
instr-none rest text behind e o j more r h =
    let s = instr-spelling.complete j r in
    let same = some-is _ _ (sym (cut-line instr_line instr_of j s rest more h) ∙ e) in
    none≢some j (sym o ∙ sym (ap (λ p. instr_of p.0) same) ∙ s.reads)

pub instr-no-line : (rest : List ℕ) → cut 10 rest ≡ None → IsNoFront instr_line IsInstr rest
instr-no-line rest e j more r h = none≢some _ (sym e ∙ cut-line instr_line instr_of j (instr-spelling.complete j r) rest more h)

number≢order : Number ≡ Order → ⊥
number≢order e = cc

wrong-by : (w : Wrong) (bytes rest text behind : List ℕ) (slots n m : ℕ) (face : Face) (code : Listing) (i : Instr)
    → Came bytes (code_so_far slots face code.instrs) n rest → 0 < n → IsCodeSoFar slots face code → cut 10 rest ≡ Some (text, behind) → instr_of text ≡ Some i
    → wrong_behind code i ≡ Some w → m ≡ suc n
    → Ends (code_so_far slots face code.instrs) rest → IsCodeFault bytes (fault_of w m)
wrong-by Number bytes rest text behind slots n m face code i c some k e o w q ends =
    fault-line bytes rest (code_so_far slots face code.instrs) n m c some ends (λ p. absurd (omega (arith, p)))
    (λ u. number≢order (some-is Number Order (sym w ∙ (λ j. wrong_behind (k.is j) (sym (instr-one rest text behind u.1 i u.0 e o u.3 u.2) j)) ∙ u.5))) q
wrong-by Order bytes rest text behind slots n m face code i c some k e o w q ends =
    fault-order bytes rest (code_so_far slots face code.instrs) n m c ends (λ p. absurd (omega (arith, p)))
    (i, behind, instr-front rest text behind i e o, instr-is-right text i o, refl, ap (λ l. wrong_behind l i) (sym k.is) ∙ w) q

-- an invalid instruction is the first fault
pub wrong-fault : (bytes rest text behind : List ℕ) (slots n m : ℕ) (face : Face) (code : Listing) (i : Instr) (w : Wrong)
    → Came bytes (code_so_far slots face code.instrs) n rest → IsCodeSoFar slots face code → cut 10 rest ≡ Some (text, behind) → (text ≡ codes "end" → ⊥)
    → instr_of text ≡ Some i → wrong_behind code i ≡ Some w → m ≡ suc n → IsCodeFault bytes (fault_of w m)
wrong-fault bytes rest text behind slots n m face code i w c k e other o wr q =
    wrong-by w bytes rest text behind slots n m face code i c (some-came bytes rest (code_so_far slots face code.instrs) n refl c) k e o wr q
    (code-ends slots face code rest k (λ j more r h t. read-fails code i k.state w k.read wr
    (subst (λ x. is_some (reading (with_instr code x)) ≡ true) (instr-one rest text behind more i j e o r h) t))
    (λ more h t. other-word rest text behind (codes "end") e other refl more h))

-- a valid instruction is one more valid line
pub next-came : (bytes rest text behind : List ℕ) (slots n m : ℕ) (face : Face) (code new : Listing) (i : Instr)
    → Came bytes (code_so_far slots face code.instrs) n rest → IsCodeSoFar slots face code → cut 10 rest ≡ Some (text, behind) → instr_of text ≡ Some i
    → wrong_behind code i ≡ None → new ≡ with_instr code i → m ≡ suc n → Came bytes (code_so_far slots face new.instrs) m behind
next-came bytes rest text behind slots n m face code new i c k e o w is q =
    let p = right-parts code i k.state k.read w in
    let read = reads-on code i k.state p.1 k.read p.0 p.2 in
    let came = came-next bytes rest behind (code_so_far slots face code.instrs) n (an_instr i) c (instr-is-right text i o)
    (ap (λ l. is_some (reading (with_instr l i))) (sym k.is) ∙ ap is_some read) (instr-front rest text behind i e o) in
    subst (λ x. Came bytes (code_so_far slots face new.instrs) x behind) (sym q) (subst (λ l. Came bytes (code_so_far slots face l.instrs) (suc n) behind)
    (sym is) came)

pub next-code : (slots : ℕ) (face : Face) (code new : Listing) (i : Instr) → IsCodeSoFar slots face code → wrong_behind code i ≡ None → new ≡ with_instr code i
    → IsCodeSoFar slots face new
next-code slots face code new i k w is =
    let p = right-parts code i k.state k.read w in
    subst (IsCodeSoFar slots face) (sym is) (record { is = ap (λ l. with_instr l i) k.is; state = p.1; read = reads-on code i k.state p.1 k.read p.0 p.2 })

pub next-text : (bytes rest text behind : List ℕ) (slots : ℕ) (face : Face) (code new : Listing) (i : Instr) → bytes ≡ text_so_far slots face code.instrs rest
    → cut 10 rest ≡ Some (text, behind) → instr_of text ≡ Some i → new ≡ with_instr code i → bytes ≡ text_so_far slots face new.instrs behind
next-text bytes rest text behind slots face code new i h e o is =
    subst (λ l. bytes ≡ text_so_far slots face l.instrs behind) (sym is)
    (h ∙ ap (λ t. text_so_far slots face [] t) (lines-push instr_line (flat_map instr_line code.instrs ++ rest) rest behind code.instrs i refl
    (instr-front rest text behind i e o)))

pub next-right : (text : List ℕ) (code new : Listing) (i : Instr) → AllByRecursion IsInstr code.instrs → instr_of text ≡ Some i → new ≡ with_instr code i
    → AllByRecursion IsInstr new.instrs
next-right text code new i h o is = subst (λ l. AllByRecursion IsInstr l.instrs) (sym is) (all-push IsInstr code.instrs i h (instr-is-right text i o))

-- ---- the end

end-is-no-instr : (rest behind : List ℕ) → rest ≡ codes "end\n" ++ behind → IsNoFront instr_line IsInstr rest
end-is-no-instr rest behind e = instr-none rest (codes "end") behind (ap (cut 10) e ∙ cut-at 10 (codes "end") behind refl) refl

pub missing-fault : (bytes rest behind : List ℕ) (slots n m : ℕ) (face : Face) (code : Listing) (w : CodeWrong)
    → Came bytes (code_so_far slots face code.instrs) n rest → IsCodeSoFar slots face code → rest ≡ codes "end\n" ++ behind → code_fault code ≡ Some w
    → m ≡ suc n → IsCodeFault bytes (BadLine m)
missing-fault bytes rest behind slots n m face code w c k e f q =
    other-fault bytes rest slots n m face code c k (end-is-no-instr rest behind e) (λ more h t. false≢true (ap is_none (sym f) ∙ t)) q

whole-ends : (d : Draft) (rest : List ℕ) → Ends (stated d code_end) rest
whole-ends d rest version more h i t = false≢true t
whole-ends d rest (slot_count n) more h i t = false≢true t
whole-ends d rest (an_input x) more h i t = false≢true t
whole-ends d rest (a_label x) more h i t = false≢true t
whole-ends d rest (an_output x) more h i t = false≢true t
whole-ends d rest code_start more h i t = false≢true t
whole-ends d rest (an_instr x) more h i t = false≢true t
whole-ends d rest code_end more h i t = false≢true t

-- bytes after `end` are a fault
pub behind-fault : (bytes rest behind : List ℕ) (slots n m : ℕ) (face : Face) (code : Listing) → Came bytes (code_so_far slots face code.instrs) n rest
    → IsCodeSoFar slots face code → rest ≡ codes "end\n" ++ behind → code_fault code ≡ None → behind ≢ [] → m ≡ n + 2 → IsCodeFault bytes (BadLine m)
behind-fault bytes rest behind slots n m face code c k e f other q =
    let d = code_so_far slots face code.instrs in
    let came = came-next bytes rest behind d n code_end c tt (ap (λ l. is_none (code_fault l)) (sym k.is) ∙ ap is_none f) e in
    fault-line bytes behind (stated d code_end) (suc n) m came (omega arith) (whole-ends d behind) (λ p. other) (λ u. omega (arith, u.4)) (omega (arith, q))

-- ---- the form

free-words : (xs : List Coded) → AllByRecursion IsRightInput xs → AllByRecursion IsFreeWord (codes_of xs)
free-words [] h = tt
free-words (x ∷ xs) h = (h.0, free-words xs h.1)

printable-labels : (xs : List FaceLabel) → AllByRecursion IsRightLabel xs → AllByRecursion IsPrintableLabel xs × AllByRecursion IsFittingLabel xs
printable-labels [] h = (tt, tt)
printable-labels (x ∷ xs) h = let k = printable-labels xs h.1 in ((h.0.0, k.0), (h.0.1, k.1))

printable-outputs : (xs : List FaceOutput) → AllByRecursion IsRightOutput xs → AllByRecursion IsPrintableOutput xs × AllByRecursion IsFittingOutput xs
printable-outputs [] h = (tt, tt)
printable-outputs (x ∷ xs) h = let k = printable-outputs xs h.1 in ((h.0.0, k.0), (h.0.1, k.1))

has-at : (name : List ℕ) (names : List (List ℕ)) (i : ℕ) → has name names ≡ false → i < length names → name ≡ get_or names i [] → ⊥
has-at name [] i h lt e = omega arith
has-at name (n ∷ ns) zero h lt e = true≢false (sym ((bytes_eq-Decides name n).1 e) ∙ (or_parts (bytes_eq name n) (has name ns) h).0)
has-at name (n ∷ ns) (suc i) h lt e = has-at name ns i (or_parts (bytes_eq name n) (has name ns) h).1 (omega arith) e

apart : (names : List (List ℕ)) → AreDistinct names → AreApart names
apart [] d i j a b e = absurd (omega arith)
apart (n ∷ ns) d zero zero a b e = refl
apart (n ∷ ns) d zero (suc j) a b e = absurd (has-at n ns j d.0 (omega arith) e)
apart (n ∷ ns) d (suc i) zero a b e = absurd (has-at n ns i d.0 (omega arith) (sym e))
apart (n ∷ ns) d (suc i) (suc j) a b e = ap suc (apart ns d.1 i j (omega arith) (omega arith) e)

printable-face : (slots : ℕ) (face : Face) → IsRightFace slots face.inputs face.labels face.outputs → IsPrintable face
printable-face slots face r = record {
  inputs = free-words face.inputs r.right_inputs;
  apart = apart (codes_of face.inputs) r.distinct;
  labels = (printable-labels face.labels r.right_labels).0;
  outputs = (printable-outputs face.outputs r.right_outputs).0;
}

pub is-form : (bytes rest behind : List ℕ) (slots : ℕ) (loaded : Loaded) (code : Listing) → loaded.code ≡ code → IsCodeSoFar slots loaded.face code
    → IsRightFace slots loaded.face.inputs loaded.face.labels loaded.face.outputs → AllByRecursion IsInstr code.instrs → code_fault code ≡ None
    → bytes ≡ text_so_far slots loaded.face code.instrs rest → rest ≡ codes "end\n" ++ behind → behind ≡ [] → IsFormOf bytes loaded
is-form bytes rest behind slots loaded code is k r all right text e none =
    let counts : slots ≡ loaded.code.counts.slots = sym (ap (λ l. l.counts.slots) (is ∙ k.is)) in
    let instrs : code.instrs ≡ loaded.code.instrs = sym (ap (λ l. l.instrs) is) in
    record {
      printable = printable-face slots loaded.face r;
      fits = record {
        slots = subst IsShort counts r.slots_fit;
        labels = (printable-labels loaded.face.labels r.right_labels).1;
        outputs = (printable-outputs loaded.face.outputs r.right_outputs).1;
        instrs = subst (AllByRecursion IsInstr) instrs all;
      };
      right = ap code_fault is ∙ right;
      text = text ∙ ap (text_so_far slots loaded.face code.instrs) (e ∙ ap (λ l. codes "end\n" ++ l) none)
          ∙ (λ j. text_so_far (counts j) loaded.face (instrs j) (codes "end\n"));
    }

-- code without instructions has no fault
pub code-begun : (slots : ℕ) (face : Face) (code : Listing) → code ≡ code_with slots face [] → IsCodeSoFar slots face code
code-begun slots face code e =
    subst (IsCodeSoFar slots face) (sym e) (record { is = refl; state = start (length face.outputs); read = refl })
