-- The lines of a face and their parser.
use Rattle.std.proofs.Common.{◌≡◌, inl, inr, ◌+◌, ◌/◌, ◌%◌, ◌==◌, ◌&&◌, ltb, ℕ, Bool, false, true, not, cond, List, [], ◌∷◌, ◌++◌, Option, Some, None, codes}
use Rattle.std.proofs.Common.{decimal, refl, sym, ap, ◌∙◌, subst, arith, append_assoc}
use Rattle.std.specs.List.{AllByRecursion}
use Rattle.std.specs.Str.{bytes_eq}
use Rattle.std.specs.Option.{option_and_then, option_map}
use Rattle.std.proofs.lemmas.Bool.{and_from, ne_eqb}
use Rattle.std.proofs.lemmas.Slice.Eq.{bytes_eq-Decides}
use Rattle.reg_machine.proofs.TableLemmas.{none≢some, some-is}
use Rattle.m_text.specs.Bytes.{IsWordByte}
use Rattle.m_places.specs.declared.verification.ErrorKind.{ErrorKind}
use Rattle.m_places.specs.declared.verification.ErrorKind.TheVariants.{Anomalie, Discordance, Informative}
use Rattle.m_places.specs.declared.verification.Label.{Label}
use Rattle.observables.specs.declared.inputs.Coded.{Coded}
use Rattle.observables.specs.declared.inputs.InputType.{InputType}
use Rattle.observables.specs.declared.inputs.InputType.TheVariants.{Any, Whole, Truth}
use Rattle.observables.specs.declared.face.FaceLabel.{FaceLabel}
use Rattle.observables.specs.declared.face.FaceLabel.TheVariants.{Verif, DriverLine}
use Rattle.observables.specs.declared.face.FaceOutput.{FaceOutput}
use Rattle.observables.specs.declared.face.FaceOutput.TheVariants.{Named, Noted}
use Rattle.reg_machine.specs.declared.instr.Instr.{Instr}
use Rattle.code_file.specs.Text.{slots_line, input_line, label_line, output_line, instr_line, kind_word, hex_of, hex_digit}
use Rattle.code_file.specs.Printable.{IsCellName}
use Rattle.code_file.specs.Reading.{IsShort, IsInstr}
use Rattle.code_file.specs.inner.Spelled.{cut, short, instr_of}
use Rattle.code_file.specs.inner.Faces.{IsRightInput, IsRightVerif, IsRightLabel, IsRightOutput, slots_by, slots_of, kind_named, coded, coded_by, input_by}
use Rattle.code_file.specs.inner.Faces.{input_of, error_kind, bytes_of, VerifWords, words_by, verif_words, verif_with, verif_of, label_with, label_kind}
use Rattle.code_file.specs.inner.Faces.{behind_label, label_words, label_of, output_by, output_of}
use Rattle.code_file.proofs.OptionLemmas.{then-some, map-some}
use Rattle.code_file.proofs.CutLemmas.{lacks, cut-at, cut-not, cut-parts}
use Rattle.code_file.proofs.NumberLemmas.{decimal-lacks}
use Rattle.code_file.proofs.NameLemmas.{word-lacks, digits-apart, feed-apart, space-apart}
use Rattle.code_file.proofs.VerifLemmas.{bytes-sound, bytes-complete}
use Rattle.code_file.proofs.InstrLemmas.{onto-last, short-sound, instr-sound}
use Rattle.code_file.proofs.InstrCompletes.{lacks-append, short-is, short-lacks, feed, instr-complete}
use Rattle.code_file.proofs.FrontLemmas.{Spells, IsSpelling}

-- a conditional option that is there has its condition true
tested : {X : Type 0} (t : Bool) (o : Option X) (x : X) → cond t o None ≡ Some x → (t ≡ true) × (o ≡ Some x)
tested true o x h = (refl, h)
tested false o x h = absurd (none≢some x h)

word-is : (text word : List ℕ) → bytes_eq text word ≡ true → text ≡ word
word-is text word h = (bytes_eq-Decides text word).0 h

-- ---- slots

slots-sound : (body : List ℕ) (n : ℕ) → slots_of body ≡ Some n → IsShort n → slots_line n ≡ body ++ 10 ∷ []
slots-sound body n h s =
    let p = then-some slots_by (cut 32 body) n h in
    let t = tested (bytes_eq p.0.0 (codes "slots")) (short p.0.1) n p.2 in
    let d = short-sound p.0.1 n t.1 in
    (λ j. codes "slots" ++ 32 ∷ (sym d.0 j ++ 10 ∷ [])) ∙ sym (onto-last (codes "slots") p.0.1)
    ∙ ap (λ w. (w ++ 32 ∷ p.0.1) ++ 10 ∷ []) (sym (word-is p.0.0 (codes "slots") t.0)) ∙ ap (λ l. l ++ 10 ∷ []) (sym (cut-parts 32 body p.0 p.1).whole)

slots-complete : (n : ℕ) → IsShort n → Spells slots_line slots_of n
slots-complete n s = record {
  body = codes "slots" ++ 32 ∷ decimal n;
  text = sym (onto-last (codes "slots") (decimal n));
  free = short-lacks 10 n feed s;
  reads = ap (option_and_then slots_by) (cut-at 32 (codes "slots") (decimal n) refl) ∙ short-is n s;
}

pub slots-spelling : IsSpelling slots_line slots_of IsShort
slots-spelling = record { sound = slots-sound; complete = slots-complete }

-- ---- inputs

kind-by : (text : List ℕ) (kind : InputType) (s t : Bool) → bytes_eq text (codes "whole") ≡ s → bytes_eq text (codes "truth") ≡ t
    → cond s (Some Whole) (cond t (Some Truth) None) ≡ Some kind → (code : List ℕ) → input_line (coded code kind) ≡ codes "input"
    ++ 32 ∷ (code ++ 32 ∷ (text ++ 10 ∷ []))
kind-by text kind true t e f h code =
    let is = some-is Whole kind h in
    (λ j. input_line (coded code (sym is j))) ∙ (λ j. codes "input" ++ 32 ∷ (code ++ 32 ∷ (sym (word-is text (codes "whole") e) j ++ 10 ∷ [])))
kind-by text kind false true e f h code =
    let is = some-is Truth kind h in
    (λ j. input_line (coded code (sym is j))) ∙ (λ j. codes "input" ++ 32 ∷ (code ++ 32 ∷ (sym (word-is text (codes "truth") f) j ++ 10 ∷ [])))
kind-by text kind false false e f h code = absurd (none≢some kind h)

coded-sound : (text : List ℕ) (x : Coded) (o : Option (List ℕ × List ℕ)) → cut 32 text ≡ o → coded_by text o ≡ Some x
    → input_line x ≡ (codes "input" ++ 32 ∷ text) ++ 10 ∷ []
coded-sound text x None e h = ap input_line (sym (some-is (coded text Any) x h)) ∙ sym (onto-last (codes "input") text)
coded-sound text x (Some q) e h =
    let k = map-some (coded q.0) (kind_named q.1) x h in
    ap input_line (sym k.2) ∙ kind-by q.1 k.0 (bytes_eq q.1 (codes "whole")) (bytes_eq q.1 (codes "truth")) refl refl k.1 q.0
    ∙ ap (λ l. codes "input" ++ 32 ∷ l) (sym (onto-last q.0 q.1)) ∙ ap (λ l. (codes "input" ++ 32 ∷ l) ++ 10 ∷ []) (sym (cut-parts 32 text q e).whole)

input-sound : (body : List ℕ) (x : Coded) → input_of body ≡ Some x → IsRightInput x → input_line x ≡ body ++ 10 ∷ []
input-sound body x h r =
    let p = then-some input_by (cut 32 body) x h in
    let t = tested (bytes_eq p.0.0 (codes "input")) (coded_by p.0.1 (cut 32 p.0.1)) x p.2 in
    coded-sound p.0.1 x (cut 32 p.0.1) refl t.1
    ∙ ap (λ w. (w ++ 32 ∷ p.0.1) ++ 10 ∷ []) (sym (word-is p.0.0 (codes "input") t.0)) ∙ ap (λ l. l ++ 10 ∷ []) (sym (cut-parts 32 body p.0 p.1).whole)

-- an input with a type
typed : (code word : List ℕ) (kind : InputType) → lacks 32 code ≡ true → lacks 10 code ≡ true → lacks 10 word ≡ true → kind_named word ≡ Some kind
    → input_line (coded code kind) ≡ codes "input" ++ 32 ∷ (code ++ 32 ∷ (word ++ 10 ∷ [])) → Spells input_line input_of (coded code kind)
typed code word kind a b c k e = record {
  body = codes "input" ++ 32 ∷ (code ++ 32 ∷ word);
  text = e ∙ ap (λ l. codes "input" ++ 32 ∷ l) (sym (onto-last code word));
  free = lacks-append 10 code (32 ∷ word) b c;
  reads = ap (option_and_then input_by) (cut-at 32 (codes "input") (code ++ 32 ∷ word) refl)
      ∙ ap (coded_by (code ++ 32 ∷ word)) (cut-at 32 code word a) ∙ ap (option_map (coded code)) k;
}

input-complete-by : (code : List ℕ) (kind : InputType) → AllByRecursion IsWordByte code → Spells input_line input_of (coded code kind)
input-complete-by code Any w = record {
  body = codes "input" ++ 32 ∷ code;
  text = sym (onto-last (codes "input") code);
  free = word-lacks 10 code feed-apart w;
  reads = ap (option_and_then input_by) (cut-at 32 (codes "input") code refl) ∙ ap (coded_by code) (cut-not 32 code (word-lacks 32 code space-apart w));
}
input-complete-by code Whole w = typed code (codes "whole") Whole (word-lacks 32 code space-apart w) (word-lacks 10 code feed-apart w) refl refl refl
input-complete-by code Truth w = typed code (codes "truth") Truth (word-lacks 32 code space-apart w) (word-lacks 10 code feed-apart w) refl refl refl

input-complete : (x : Coded) → IsRightInput x → Spells input_line input_of x
input-complete x r = input-complete-by x.code x.kind r.0.0

pub input-spelling : IsSpelling input_line input_of IsRightInput
input-spelling = record { sound = input-sound; complete = input-complete }

-- ---- labels

-- an error's kind and its word
error-by : (word : List ℕ) (kind : ErrorKind) (s t u : Bool) → bytes_eq word (codes "anomalie") ≡ s → bytes_eq word (codes "discordance") ≡ t
    → bytes_eq word (codes "informative") ≡ u → cond s (Some Anomalie) (cond t (Some Discordance) (cond u (Some Informative) None)) ≡ Some kind
    → word ≡ kind_word kind
error-by word kind true t u e f g h = word-is word (codes "anomalie") e ∙ ap kind_word (some-is Anomalie kind h)
error-by word kind false true u e f g h = word-is word (codes "discordance") f ∙ ap kind_word (some-is Discordance kind h)
error-by word kind false false true e f g h = word-is word (codes "informative") g ∙ ap kind_word (some-is Informative kind h)
error-by word kind false false false e f g h = absurd (none≢some kind h)

kind-lacks-space : (kind : ErrorKind) → lacks 32 (kind_word kind) ≡ true
kind-lacks-space Anomalie = refl
kind-lacks-space Discordance = refl
kind-lacks-space Informative = refl

kind-lacks-feed : (kind : ErrorKind) → lacks 10 (kind_word kind) ≡ true
kind-lacks-feed Anomalie = refl
kind-lacks-feed Discordance = refl
kind-lacks-feed Informative = refl

kind-is : (kind : ErrorKind) → error_kind (kind_word kind) ≡ Some kind
kind-is Anomalie = refl
kind-is Discordance = refl
kind-is Informative = refl

-- the fields of a label, with spaces between them
abbrev pub Four : List ℕ → List ℕ → List ℕ → List ℕ → List ℕ
Four a b c d = a ++ 32 ∷ (b ++ 32 ∷ (c ++ 32 ∷ d))

-- its line by its fields
front-end : (a b c t : List ℕ) → (a ++ 32 ∷ (b ++ 32 ∷ (c ++ 32 ∷ []))) ++ t ≡ a ++ 32 ∷ (b ++ 32 ∷ (c ++ 32 ∷ t))
front-end a b c t =
    append_assoc a (32 ∷ (b ++ 32 ∷ (c ++ 32 ∷ []))) t
    ∙ ap (λ l. a ++ 32 ∷ l) (append_assoc b (32 ∷ (c ++ 32 ∷ [])) t ∙ ap (λ l. b ++ 32 ∷ l) (append_assoc c (32 ∷ []) t))

four-end : (a b c d : List ℕ) → Four a b c d ++ 10 ∷ [] ≡ a ++ 32 ∷ (b ++ 32 ∷ (c ++ 32 ∷ (d ++ 10 ∷ [])))
four-end a b c d = onto-last a (b ++ 32 ∷ (c ++ 32 ∷ d)) ∙ ap (λ l. a ++ 32 ∷ l) (onto-last b (c ++ 32 ∷ d) ∙ ap (λ l. b ++ 32 ∷ l) (onto-last c d))

verif-line : (label : Label) → label_line (Verif label)
    ≡ (codes "label" ++ 32 ∷ (codes "verif" ++ 32 ∷ Four label.verif label.error (kind_word label.kind) (hex_of label.text))) ++ 10 ∷ []
verif-line label =
    ap (λ l. codes "label" ++ 32 ∷ (codes "verif" ++ 32 ∷ l))
    (front-end label.verif label.error (kind_word label.kind) (hex_of label.text ++ 10 ∷ [])
    ∙ sym (four-end label.verif label.error (kind_word label.kind) (hex_of label.text)))

-- what parsing its fields means for the text
verif-words-sound : (text : List ℕ) (w : VerifWords) → verif_words text ≡ Some w → text ≡ Four w.number w.error (kind_word w.kind) w.hex
verif-words-sound text w h =
    let p = then-some (λ p. option_and_then (λ q. option_and_then (words_by p.0 q.0) (cut 32 q.1)) (cut 32 p.1)) (cut 32 text) w h in
    let q = then-some (λ q. option_and_then (words_by p.0.0 q.0) (cut 32 q.1)) (cut 32 p.0.1) w p.2 in
    let r = then-some (words_by p.0.0 q.0.0) (cut 32 q.0.1) w q.2 in
    let k = map-some (λ kind. record { number = p.0.0; error = q.0.0; kind = kind; hex = r.0.1 }) (error_kind r.0.0) w r.2 in
    let word = error-by r.0.0 k.0 (bytes_eq r.0.0 (codes "anomalie")) (bytes_eq r.0.0 (codes "discordance")) (bytes_eq r.0.0 (codes "informative")) refl refl
    refl k.1 in
    subst (λ v. text ≡ Four v.number v.error (kind_word v.kind) v.hex) k.2
    ((cut-parts 32 text p.0 p.1).whole ∙ (λ j. p.0.0 ++ 32 ∷ (cut-parts 32 p.0.1 q.0 q.1).whole j)
    ∙ (λ j. p.0.0 ++ 32 ∷ (q.0.0 ++ 32 ∷ (cut-parts 32 q.0.1 r.0 r.1).whole j))
    ∙ (λ j. p.0.0 ++ 32 ∷ (q.0.0 ++ 32 ∷ (word j ++ 32 ∷ r.0.1))))

verif-sound : (text : List ℕ) (label : Label) → verif_of text ≡ Some label → text ≡ Four label.verif label.error (kind_word label.kind) (hex_of label.text)
verif-sound text label h =
    let k = then-some verif_with (verif_words text) label h in
    let b = map-some (label_with k.0) (bytes_of k.0.hex) label k.2 in
    subst (λ l. text ≡ Four l.verif l.error (kind_word l.kind) (hex_of l.text)) b.2
    (verif-words-sound text k.0 k.1 ∙ ap (λ t. Four k.0.number k.0.error (kind_word k.0.kind) t) (sym (bytes-sound k.0.hex b.0 b.1).0))

label-kind-by : (p : List ℕ × List ℕ) (x : FaceLabel) (s t : Bool) → bytes_eq p.0 (codes "driver") ≡ s → bytes_eq p.0 (codes "verif") ≡ t
    → cond s (option_map DriverLine (short p.1)) (cond t (option_map Verif (verif_of p.1)) None) ≡ Some x
    → label_line x ≡ (codes "label" ++ 32 ∷ (p.0 ++ 32 ∷ p.1)) ++ 10 ∷ []
label-kind-by p x true t e f h =
    let k = map-some DriverLine (short p.1) x h in
    let d = short-sound p.1 k.0 k.1 in
    ap label_line (sym k.2) ∙ (λ j. codes "label" ++ 32 ∷ (codes "driver" ++ 32 ∷ (sym d.0 j ++ 10 ∷ [])))
    ∙ ap (λ l. codes "label" ++ 32 ∷ l) (sym (onto-last (codes "driver") p.1))
    ∙ ap (λ w. (codes "label" ++ 32 ∷ (w ++ 32 ∷ p.1)) ++ 10 ∷ []) (sym (word-is p.0 (codes "driver") e))
label-kind-by p x false true e f h =
    let k = map-some Verif (verif_of p.1) x h in
    ap label_line (sym k.2) ∙ verif-line k.0
    ∙ (λ j. (codes "label" ++ 32 ∷ (sym (word-is p.0 (codes "verif") f) j ++ 32 ∷ sym (verif-sound p.1 k.0 k.1) j)) ++ 10 ∷ [])
label-kind-by p x false false e f h = absurd (none≢some x h)

label-sound : (body : List ℕ) (x : FaceLabel) → label_of body ≡ Some x → IsRightLabel x → label_line x ≡ body ++ 10 ∷ []
label-sound body x h r =
    let q = then-some label_kind (label_words body) x h in
    let p = then-some behind_label (cut 32 body) q.0 q.1 in
    let t = tested (bytes_eq p.0.0 (codes "label")) (cut 32 p.0.1) q.0 p.2 in
    label-kind-by q.0 x (bytes_eq q.0.0 (codes "driver")) (bytes_eq q.0.0 (codes "verif")) refl refl q.2
    ∙ (λ j. (sym (word-is p.0.0 (codes "label") t.0) j ++ 32 ∷ sym (cut-parts 32 p.0.1 q.0 t.1).whole j) ++ 10 ∷ [])
    ∙ ap (λ l. l ++ 10 ∷ []) (sym (cut-parts 32 body p.0 p.1).whole)

label-words-is : (word text : List ℕ) → lacks 32 word ≡ true → label_words (codes "label" ++ 32 ∷ (word ++ 32 ∷ text)) ≡ Some (word, text)
label-words-is word text h = ap (option_and_then behind_label) (cut-at 32 (codes "label") (word ++ 32 ∷ text) refl) ∙ cut-at 32 word text h

words-complete : (number error hex : List ℕ) (kind : ErrorKind) → lacks 32 number ≡ true → lacks 32 error ≡ true
    → verif_words (Four number error (kind_word kind) hex) ≡ Some (record { number = number; error = error; kind = kind; hex = hex })
words-complete number error hex kind a b =
    ap (option_and_then (λ p. option_and_then (λ q. option_and_then (words_by p.0 q.0) (cut 32 q.1)) (cut 32 p.1)))
    (cut-at 32 number (error ++ 32 ∷ (kind_word kind ++ 32 ∷ hex)) a)
    ∙ ap (option_and_then (λ q. option_and_then (words_by number q.0) (cut 32 q.1))) (cut-at 32 error (kind_word kind ++ 32 ∷ hex) b)
    ∙ ap (option_and_then (words_by number error)) (cut-at 32 (kind_word kind) hex (kind-lacks-space kind))
    ∙ ap (option_map (λ k. record { number = number; error = error; kind = k; hex = hex })) (kind-is kind)

verif-complete : (label : Label) → IsRightVerif label → verif_of (Four label.verif label.error (kind_word label.kind) (hex_of label.text)) ≡ Some label
verif-complete label r =
    ap (option_and_then verif_with) (words-complete label.verif label.error (hex_of label.text) label.kind (digits-apart 32 label.verif space-apart r.0.0.1)
    (word-lacks 32 label.error space-apart r.0.2.0.0.0))
    ∙ ap (option_map (label_with (record { number = label.verif; error = label.error; kind = label.kind; hex = hex_of label.text })))
    (bytes-complete label.text r.1)

hex-ne-by : (d : ℕ) (t : Bool) → (cond t (48 + d) (87 + d) == 10) ≡ false
hex-ne-by d true = ne_eqb (48 + d) 10 (λ e. omega arith)
hex-ne-by d false = ne_eqb (87 + d) 10 (λ e. omega arith)

hex-free : (bytes : List ℕ) → lacks 10 (hex_of bytes) ≡ true
hex-free [] = refl
hex-free (b ∷ bytes) =
    and_from (not (hex_digit (b / 16) == 10)) (not (hex_digit (b % 16) == 10) && lacks 10 (hex_of bytes)) (ap not (hex-ne-by (b / 16) (ltb (b / 16) 10)))
    (and_from (not (hex_digit (b % 16) == 10)) (lacks 10 (hex_of bytes)) (ap not (hex-ne-by (b % 16) (ltb (b % 16) 10))) (hex-free bytes))

label-complete : (x : FaceLabel) → IsRightLabel x → Spells label_line label_of x
label-complete (DriverLine n) r = record {
  body = codes "label" ++ 32 ∷ (codes "driver" ++ 32 ∷ decimal n);
  text = ap (λ l. codes "label" ++ 32 ∷ l) (sym (onto-last (codes "driver") (decimal n)));
  free = short-lacks 10 n feed r.1;
  reads = ap (option_and_then label_kind) (label-words-is (codes "driver") (decimal n) refl) ∙ ap (option_map DriverLine) (short-is n r.1);
}
label-complete (Verif label) r =
    let text = Four label.verif label.error (kind_word label.kind) (hex_of label.text) in
    record {
      body = codes "label" ++ 32 ∷ (codes "verif" ++ 32 ∷ text);
      text = verif-line label;
      free = lacks-append 10 label.verif (32 ∷ (label.error ++ 32 ∷ (kind_word label.kind ++ 32 ∷ hex_of label.text)))
          (digits-apart 10 label.verif feed-apart r.0.0.1)
          (lacks-append 10 label.error (32 ∷ (kind_word label.kind ++ 32 ∷ hex_of label.text)) (word-lacks 10 label.error feed-apart r.0.2.0.0.0)
          (lacks-append 10 (kind_word label.kind) (32 ∷ hex_of label.text) (kind-lacks-feed label.kind) (hex-free label.text)));
      reads = ap (option_and_then label_kind) (label-words-is (codes "verif") text refl) ∙ ap (option_map Verif) (verif-complete label r);
    }

pub label-spelling : IsSpelling label_line label_of IsRightLabel
label-spelling = record { sound = label-sound; complete = label-complete }

-- ---- outputs

output-by-sound : (p : List ℕ × List ℕ) (x : FaceOutput) (s t : Bool) → bytes_eq p.0 (codes "output") ≡ s → bytes_eq p.0 (codes "note") ≡ t
    → cond s (Some (Named p.1)) (cond t (option_map Noted (short p.1)) None) ≡ Some x → output_line x ≡ (p.0 ++ 32 ∷ p.1) ++ 10 ∷ []
output-by-sound p x true t e f h =
    ap output_line (sym (some-is (Named p.1) x h)) ∙ sym (onto-last (codes "output") p.1)
    ∙ ap (λ w. (w ++ 32 ∷ p.1) ++ 10 ∷ []) (sym (word-is p.0 (codes "output") e))
output-by-sound p x false true e f h =
    let k = map-some Noted (short p.1) x h in
    let d = short-sound p.1 k.0 k.1 in
    ap output_line (sym k.2) ∙ (λ j. codes "note" ++ 32 ∷ (sym d.0 j ++ 10 ∷ [])) ∙ sym (onto-last (codes "note") p.1)
    ∙ ap (λ w. (w ++ 32 ∷ p.1) ++ 10 ∷ []) (sym (word-is p.0 (codes "note") f))
output-by-sound p x false false e f h = absurd (none≢some x h)

output-sound : (body : List ℕ) (x : FaceOutput) → output_of body ≡ Some x → IsRightOutput x → output_line x ≡ body ++ 10 ∷ []
output-sound body x h r =
    let p = then-some output_by (cut 32 body) x h in
    output-by-sound p.0 x (bytes_eq p.0.0 (codes "output")) (bytes_eq p.0.0 (codes "note")) refl refl p.2
    ∙ ap (λ l. l ++ 10 ∷ []) (sym (cut-parts 32 body p.0 p.1).whole)

cell-free : (name : List ℕ) → IsCellName name → lacks 10 name ≡ true
cell-free name (inl h) = word-lacks 10 name feed-apart h.0.0.0
cell-free name (inr h) =
    ap (lacks 10) h.4 ∙ lacks-append 10 h.0 (91 ∷ (decimal h.1 ++ 93 ∷ [])) (word-lacks 10 h.0 feed-apart h.2.0.0.0)
    (lacks-append 10 (decimal h.1) (93 ∷ []) (decimal-lacks 10 h.1 feed (omega (arith, h.3))) refl)

output-complete : (x : FaceOutput) → IsRightOutput x → Spells output_line output_of x
output-complete (Named name) r = record {
  body = codes "output" ++ 32 ∷ name;
  text = sym (onto-last (codes "output") name);
  free = cell-free name r.0;
  reads = ap (option_and_then output_by) (cut-at 32 (codes "output") name refl);
}
output-complete (Noted n) r = record {
  body = codes "note" ++ 32 ∷ decimal n;
  text = sym (onto-last (codes "note") (decimal n));
  free = short-lacks 10 n feed r.1;
  reads = ap (option_and_then output_by) (cut-at 32 (codes "note") (decimal n) refl) ∙ ap (option_map Noted) (short-is n r.1);
}

pub output-spelling : IsSpelling output_line output_of IsRightOutput
output-spelling = record { sound = output-sound; complete = output-complete }

-- ---- instructions

instr-spells : (i : Instr) → IsInstr i → Spells instr_line instr_of i
instr-spells i h = let c = instr-complete i h in record { body = c.line; text = c.text; free = c.free; reads = c.reads }

pub instr-spelling : IsSpelling instr_line instr_of IsInstr
instr-spelling = record { sound = λ body i h r. (instr-sound body i h).text; complete = instr-spells }

pub slots-fit : (body : List ℕ) (n : ℕ) → slots_of body ≡ Some n → IsShort n
slots-fit body n h =
    let p = then-some slots_by (cut 32 body) n h in
    let t = tested (bytes_eq p.0.0 (codes "slots")) (short p.0.1) n p.2 in
    (short-sound p.0.1 n t.1).1
