-- The parts of the lines.
use Rattle.std.proofs.Common.{◌≡◌, ℕ, ◌+◌, ◌<◌, ◌≤◌, List, [], ◌∷◌, ◌++◌, length, get_or, drop, refl, ap, sym, ◌∙◌, append-nil, ◌⊎◌, inl, inr, arith}
use Rattle.std.specs.Prelude.{codes, min}
use Rattle.std.proofs.lemmas.Bool.{cases_lt}
use Rattle.std.proofs.lemmas.List.{drop_more, drop_all}
use Rattle.m_text.specs.Pieces.{joined, new_line}
use Rattle.definedness.specs.Facts.{Possible}
use Rattle.observables.specs.declared.face.Face.{Face}
use Rattle.observables.specs.declared.face.FaceOutput.{FaceOutput}
use Rattle.observables.specs.declared.face.FaceOutput.TheVariants.{Named, Noted}
use Rattle.observables.specs.declared.inputs.Coded.{Coded}
use Rattle.observables.specs.Outputs.{names_of}
use Rattle.micro_m.specs.declared.base.Base.{Base}
use Rattle.m_lint.specs.Lines.{stops_line}
use Rattle.m_facts.specs.declared.found.FactsFound.{FactsFound}
use Rattle.m_facts.specs.Lines.{fact_line, facts_lines, named_facts, silent_lines, code_at, codes_text, reads_line, printed_name, reads_lines, found_text}
use Rattle.m_facts.specs.inner.Parts.{output_line, outputs_lines}

-- ---- outputs

-- the lines of all outputs are those of the outputs with names
pub outputs-are : (outputs : List FaceOutput) (facts : List Possible) → outputs_lines outputs facts ≡ facts_lines (names_of outputs) (named_facts outputs facts)
outputs-are [] facts = refl
outputs-are (Named name ∷ outputs) [] = refl
outputs-are (Noted number ∷ outputs) [] = none (names_of outputs)
  where
    none : (names : List (List ℕ)) → [] ≡ facts_lines names []
    none [] = refl
    none (name ∷ names) = refl
outputs-are (Named name ∷ outputs) (fact ∷ facts) = ap (λ lines. fact_line name fact ++ lines) (outputs-are outputs facts)
outputs-are (Noted number ∷ outputs) (fact ∷ facts) = outputs-are outputs facts

pub outputs-at : (outputs : List FaceOutput) (facts : List Possible) (i : ℕ) (output d : FaceOutput) (fact e : Possible) → i < length outputs → i < length facts
    → output ≡ get_or outputs i d → fact ≡ get_or facts i e
    → outputs_lines (drop i outputs) (drop i facts) ≡ output_line output fact ++ outputs_lines (drop (i + 1) outputs) (drop (i + 1) facts)
outputs-at outputs facts i output d fact e low below is has =
    ap (λ os. outputs_lines os (drop i facts)) (drop_more outputs i d low)
    ∙ ap (outputs_lines (get_or outputs i d ∷ drop (i + 1) outputs)) (drop_more facts i e below)
    ∙ ap (λ o. output_line o (get_or facts i e) ++ outputs_lines (drop (i + 1) outputs) (drop (i + 1) facts)) (sym is)
    ∙ ap (λ f. output_line output f ++ outputs_lines (drop (i + 1) outputs) (drop (i + 1) facts)) (sym has)

no-outputs : (outputs : List FaceOutput) → outputs_lines outputs [] ≡ []
no-outputs [] = refl
no-outputs (output ∷ outputs) = refl

pub outputs-end : (outputs : List FaceOutput) (facts : List Possible) (i : ℕ) → (length outputs ≤ i) ⊎ (length facts ≤ i)
    → outputs_lines (drop i outputs) (drop i facts) ≡ []
outputs-end outputs facts i (inl h) = ap (λ os. outputs_lines os (drop i facts)) (drop_all i outputs h)
outputs-end outputs facts i (inr h) = ap (outputs_lines (drop i outputs)) (drop_all i facts h) ∙ no-outputs (drop i outputs)

-- ---- checks

pub silent-at : (base : Base) (ks : List ℕ) (i k d : ℕ) → i < length ks → k ≡ get_or ks i d → silent_lines base (drop i ks) ≡ stops_line base k
    ++ silent_lines base (drop (i + 1) ks)
silent-at base ks i k d low is = ap (silent_lines base) (drop_more ks i d low) ∙ ap (λ j. stops_line base j ++ silent_lines base (drop (i + 1) ks)) (sym is)

-- ---- dependences

pub codes-at : (inputs : List Coded) (ns : List ℕ) (i n d : ℕ) → i < length ns → n ≡ get_or ns i d
    → codes_text inputs (drop i ns) ≡ joined (codes " " ∷ code_at inputs n ∷ []) ++ codes_text inputs (drop (i + 1) ns)
codes-at inputs ns i n d low is = ap (codes_text inputs) (drop_more ns i d low)
    ∙ ap (λ m. joined (codes " " ∷ code_at inputs m ∷ []) ++ codes_text inputs (drop (i + 1) ns)) (sym is)

-- the line of a cell begins with its name
pub read-first : (inputs : List Coded) (name : List ℕ) (ns : List ℕ) → reads_line inputs name ns ≡ joined (codes "depends " ∷ name ∷ [])
    ++ (codes_text inputs ns ++ new_line)
read-first inputs name ns =
    ap (λ n. codes "depends " ++ (n ++ (codes_text inputs ns ++ new_line))) (sym (append-nil name)) ∙ ap (λ rest. codes "depends " ++ rest) refl

pub reads-at : (face : Face) (ks : List ℕ) (reads : List (List ℕ)) (i k d : ℕ) (name ns e : List ℕ) → i < length ks → i < length reads → k ≡ get_or ks i d
    → ns ≡ get_or reads i e → name ≡ printed_name face.outputs k
    → reads_lines face (drop i ks) (drop i reads) ≡ reads_line face.inputs name ns ++ reads_lines face (drop (i + 1) ks) (drop (i + 1) reads)
reads-at face ks reads i k d name ns e low below is has named =
    ap (λ js. reads_lines face js (drop i reads)) (drop_more ks i d low) ∙ ap (reads_lines face (get_or ks i d ∷ drop (i + 1) ks)) (drop_more reads i e below)
    ∙ ap (λ j. reads_line face.inputs (printed_name face.outputs j) (get_or reads i e) ++ reads_lines face (drop (i + 1) ks) (drop (i + 1) reads)) (sym is)
    ∙ ap (λ n. reads_line face.inputs n (get_or reads i e) ++ reads_lines face (drop (i + 1) ks) (drop (i + 1) reads)) (sym named)
    ∙ ap (λ m. reads_line face.inputs name m ++ reads_lines face (drop (i + 1) ks) (drop (i + 1) reads)) (sym has)

no-reads : (face : Face) (ks : List ℕ) → reads_lines face ks [] ≡ []
no-reads face [] = refl
no-reads face (k ∷ ks) = refl

pub reads-end : (face : Face) (ks : List ℕ) (reads : List (List ℕ)) (i : ℕ) → (length ks ≤ i) ⊎ (length reads ≤ i)
    → reads_lines face (drop i ks) (drop i reads) ≡ []
reads-end face ks reads i (inl h) = ap (λ js. reads_lines face js (drop i reads)) (drop_all i ks h)
reads-end face ks reads i (inr h) = ap (reads_lines face (drop i ks)) (drop_all i reads h) ∙ no-reads face (drop i ks)

-- ---- all lines

pub found-first : (base : Base) (face : Face) (found : FactsFound)
    → found_text base face found ≡ outputs_lines face.outputs found.possible ++ (silent_lines base found.silent ++ reads_lines face found.firsts found.reads)
found-first base face found = ap (λ lines. lines ++ (silent_lines base found.silent ++ reads_lines face found.firsts found.reads))
    (sym (outputs-are face.outputs found.possible))

-- ---- the lesser of two counts

pub within-both : (i a b : ℕ) → i < min a b → (i < a) × (i < b)
within-both i a b h = (omega (arith, h), omega (arith, h))

pub past-one : (i a b : ℕ) → min a b ≤ i → (a ≤ i) ⊎ (b ≤ i)
past-one i a b h = by (cases_lt i a)
  where
    by : (i < a) ⊎ (a ≤ i) → (a ≤ i) ⊎ (b ≤ i)
    by (inl low) = inr (omega (arith, h, low))
    by (inr high) = inl high
