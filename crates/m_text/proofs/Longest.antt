-- The longest text of a kind at the start of bytes.
use Rattle.std.proofs.Common.{◌≡◌, ℕ, ◌≤◌, List, ◌∷◌, ◌++◌, length, sym, ◌∙◌, subst, arith, inl, inr}
use Rattle.std.proofs.lemmas.Bool.{cases_lt}
use Rattle.m_text.specs.Words.{LongestOf}
use Rattle.m_text.proofs.Fronts.{longer, same_length}

-- a text is the longest if no longer one of its kind extends it
pub longest_from : (P : List ℕ → Type 0) (bytes t rest : List ℕ) → bytes ≡ t ++ rest → P t
    → ((c : ℕ) (more v : List ℕ) → rest ≡ c ∷ (more ++ v) → P (t ++ c ∷ more) → ⊥) → LongestOf P bytes t rest
longest_from P bytes t rest e p none = record { parts = e; piece = p; longest = most }
  where
    most : (u v : List ℕ) → bytes ≡ u ++ v → P u → length u ≤ length t
    most u v f q = elim (cases_lt (length t) (length u)) [
      | inl h ↦ let w = longer t rest u v (sym e ∙ f) h in absurd (none w.0 w.1 v w.3 (subst P w.2 q))
      | inr h ↦ h
    ]

-- the longest text of a kind is unique
pub one_longest : (P : List ℕ → Type 0) (bytes t r u v : List ℕ) → LongestOf P bytes t r → LongestOf P bytes u v → (t ≡ u) × (r ≡ v)
one_longest P bytes t r u v a b =
    let le : length t ≤ length u = b.longest t r a.parts a.piece in
    let ge : length u ≤ length t = a.longest u v b.parts b.piece in
    same_length t r u v (sym a.parts ∙ b.parts) (omega arith)

-- the longest of one kind is the longest of another, if both kinds have the same texts at the start
-- of these bytes
pub longest_among : (P Q : List ℕ → Type 0) (bytes t rest : List ℕ) → LongestOf P bytes t rest → Q t → ((u others : List ℕ) → bytes ≡ u ++ others → Q u → P u)
    → LongestOf Q bytes t rest
longest_among P Q bytes t rest l q same = record { parts = l.parts; piece = q; longest = λ u others e p. l.longest u others e (same u others e p) }
