-- Labels as texts: labels with equal texts are equal.
use Rattle.std.proofs.Common.{◌≡◌, ℕ, Bool, true, false, List, [], ◌∷◌, ◌++◌, Option, None, Some, refl, ap, sym, ◌∙◌, arith}
use Rattle.std.specs.Prelude.{is_some, ◌&&◌}
use Rattle.std.specs.Str.{bytes_eq}
use Rattle.m_places.specs.declared.verification.Label.{Label}
use Rattle.m_places.specs.declared.verification.ErrorKind.{ErrorKind}
use Rattle.m_places.specs.declared.verification.ErrorKind.TheVariants.{Anomalie, Discordance, Informative}
use Rattle.m_names.specs.Names.{has, index_of}
use Rattle.m_names.proofs.NameLemmas.{same, itself, both, and-both, index_of-none, index_of-some}
use Rattle.m_lint.specs.Findings.{is_same_kind, is_same_label}
use Rattle.m_lint.specs.inner.Loud.{coded_word, kind_number, coded_label}

-- a name is among the names if it has a number
pub has-number : (name : List ℕ) (names : List (List ℕ)) (found : Option ℕ) → found ≡ index_of name names → is_some found ≡ has name names
has-number name names None e = sym (index_of-none name names (sym e))
has-number name names (Some i) e = sym ((index_of-some name names i (sym e)).0)

-- ---- one text for each label

abbrev SameWord : List ℕ → List ℕ → List ℕ → List ℕ → Type 0
SameWord a b r s = (a ≡ b) × (r ≡ s)

word-apart : (a b r s : List ℕ) → coded_word a ++ r ≡ coded_word b ++ s → SameWord a b r s
word-apart [] [] r s e = (refl, cc)
word-apart [] (y ∷ b) r s e = cc e
word-apart (x ∷ a) [] r s e = cc e
word-apart (x ∷ a) (y ∷ b) r s e =
    let first : x ≡ y = cc in
    let rest : coded_word a ++ r ≡ coded_word b ++ s = cc in
    let k = word-apart a b r s rest in
    (ap (λ z. z ∷ a) first ∙ ap (λ zs. y ∷ zs) k.0, k.1)

kind-apart : (a b : ErrorKind) → kind_number a ≡ kind_number b → is_same_kind a b ≡ true
kind-apart Anomalie Anomalie e = refl
kind-apart Anomalie Discordance e = absurd (omega (arith, e))
kind-apart Anomalie Informative e = absurd (omega (arith, e))
kind-apart Discordance Anomalie e = absurd (omega (arith, e))
kind-apart Discordance Discordance e = refl
kind-apart Discordance Informative e = absurd (omega (arith, e))
kind-apart Informative Anomalie e = absurd (omega (arith, e))
kind-apart Informative Discordance e = absurd (omega (arith, e))
kind-apart Informative Informative e = refl

kind-same : (a b : ErrorKind) → is_same_kind a b ≡ true → a ≡ b
kind-same Anomalie Anomalie e = refl
kind-same Discordance Discordance e = refl
kind-same Informative Informative e = refl
kind-same Anomalie Discordance e = cc e
kind-same Anomalie Informative e = cc e
kind-same Discordance Anomalie e = cc e
kind-same Discordance Informative e = cc e
kind-same Informative Anomalie e = cc e
kind-same Informative Discordance e = cc e

kind-itself : (a : ErrorKind) → is_same_kind a a ≡ true
kind-itself Anomalie = refl
kind-itself Discordance = refl
kind-itself Informative = refl

abbrev label : List ℕ → List ℕ → ErrorKind → List ℕ → Label
label verif error kind text = record { verif = verif; error = error; kind = kind; text = text }

-- a label is equal to itself only
pub label-itself : (a : Label) → is_same_label a a ≡ true
label-itself a = and-both _ _ (and-both _ _ (and-both _ _ (itself a.verif) (itself a.error)) (kind-itself a.kind)) (itself a.text)

pub label-same : (a b : Label) → is_same_label a b ≡ true → a ≡ b
label-same a b e =
    let most = both (bytes_eq a.verif b.verif && bytes_eq a.error b.error && is_same_kind a.kind b.kind) (bytes_eq a.text b.text) e in
    let three = both (bytes_eq a.verif b.verif && bytes_eq a.error b.error) (is_same_kind a.kind b.kind) most.0 in
    let two = both (bytes_eq a.verif b.verif) (bytes_eq a.error b.error) three.0 in
    by a b (same a.verif b.verif two.0) (same a.error b.error two.1) (kind-same a.kind b.kind three.1) (same a.text b.text most.1)
  where
    by : (a b : Label) → a.verif ≡ b.verif → a.error ≡ b.error → a.kind ≡ b.kind → a.text ≡ b.text → a ≡ b
    by a b v r k t =
        ap (λ x. label x a.error a.kind a.text) v ∙ ap (λ x. label b.verif x a.kind a.text) r ∙ ap (λ x. label b.verif b.error x a.text) k
        ∙ ap (λ x. label b.verif b.error b.kind x) t

-- the texts of labels are equal exactly where the labels are
pub code-same : (a b : Label) → bytes_eq (coded_label a) (coded_label b) ≡ is_same_label a b
code-same a b = by (bytes_eq (coded_label a) (coded_label b)) (is_same_label a b) refl refl
  where
    equal : coded_label a ≡ coded_label b → is_same_label a b ≡ true
    equal e =
        let v = word-apart a.verif b.verif (coded_word a.error ++ (kind_number a.kind ∷ a.text)) (coded_word b.error ++ (kind_number b.kind ∷ b.text)) e in
        let r = word-apart a.error b.error (kind_number a.kind ∷ a.text) (kind_number b.kind ∷ b.text) v.1 in
        let k : kind_number a.kind ≡ kind_number b.kind = cc (r.1) in
        let t : a.text ≡ b.text = cc (r.1) in
        and-both _ _ (and-both _ _ (and-both _ _ (ap (bytes_eq a.verif) (sym v.0) ∙ itself a.verif) (ap (bytes_eq a.error) (sym r.0) ∙ itself a.error))
        (kind-apart a.kind b.kind k)) (ap (bytes_eq a.text) (sym t) ∙ itself a.text)

    by : (p q : Bool) → bytes_eq (coded_label a) (coded_label b) ≡ p → is_same_label a b ≡ q → p ≡ q
    by true true e f = refl
    by true false e f = sym (equal (same (coded_label a) (coded_label b) e)) ∙ f
    by false true e f = sym e ∙ ap (λ (l : Label). bytes_eq (coded_label a) (coded_label l)) (sym (label-same a b f)) ∙ itself (coded_label a)
    by false false e f = refl
