-- The text before a closing bracket at its end.
use Rattle.std.proofs.Common.{◌≡◌, ℕ, zero, suc, ◌+◌, List, [], ◌∷◌, length, take, get_or, None, Some, refl, ap, arith}
use Rattle.std.proofs.lemmas.Bool.{ne_eqb}
use Rattle.std.specs.Option.{option_map}
use Rattle.m_symbols.specs.Cells.{before_closing}

pub closing_there : (text : List ℕ) (last : ℕ) → last + 1 ≡ length text → get_or text last 0 ≡ 93 → before_closing text ≡ Some (take last text)
closing_there [] last l h = absurd (omega arith)
closing_there (b ∷ []) zero l h = rw h refl
closing_there (b ∷ c ∷ bs) zero l h = absurd (omega arith)
closing_there (b ∷ []) (suc last) l h = absurd (omega arith)
closing_there (b ∷ c ∷ bs) (suc last) l h = ap (option_map (λ front. b ∷ front)) (closing_there (c ∷ bs) last (omega arith) h)

pub other_there : (text : List ℕ) (last : ℕ) → last + 1 ≡ length text → (get_or text last 0 ≡ 93 → ⊥) → before_closing text ≡ None
other_there [] last l h = absurd (omega arith)
other_there (b ∷ []) zero l h = rw (ne_eqb b 93 h) refl
other_there (b ∷ c ∷ bs) zero l h = absurd (omega arith)
other_there (b ∷ []) (suc last) l h = absurd (omega arith)
other_there (b ∷ c ∷ bs) (suc last) l h = ap (option_map (λ front. b ∷ front)) (other_there (c ∷ bs) last (omega arith) h)
