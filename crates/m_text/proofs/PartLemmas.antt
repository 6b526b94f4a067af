-- The search for the first occurrence of a byte.
use Rattle.std.proofs.Common.{◌≡◌, ◌<◌, ◌+◌, ◌==◌, ℕ, suc, false, true, cond, List, [], ◌∷◌, ◌++◌, length, take, drop, get_or, Option, Some, None, refl, sym}
use Rattle.std.proofs.Common.{ap, ◌∙◌, arith}
use Rattle.std.proofs.Math.Seq.{drop-cons}
use Rattle.std.proofs.lemmas.List.{take_more, drop_all}
use Rattle.std.proofs.lemmas.Bool.{ne_eqb, eq-eqb}
use Rattle.m_text.specs.Parts.{with_first, split_at}

-- bytes put before the parts of a text
abbrev pub onto : List ℕ → List ℕ × Option (List ℕ) → List ℕ × Option (List ℕ)
onto [] parts = parts
onto (b ∷ bs) parts = with_first b (onto bs parts)

onto_first : (bs : List ℕ) (b : ℕ) (parts : List ℕ × Option (List ℕ)) → onto bs (with_first b parts) ≡ onto (bs ++ b ∷ []) parts
onto_first [] b parts = refl
onto_first (c ∷ bs) b parts = ap (with_first c) (onto_first bs b parts)

onto_none : (bs : List ℕ) (behind : Option (List ℕ)) → onto bs ([], behind) ≡ (bs, behind)
onto_none [] behind = refl
onto_none (b ∷ bs) behind = ap (with_first b) (onto_none bs behind)

-- the split of the text, from a position on
abbrev pub Splits : ℕ → List ℕ → ℕ → Type 0
Splits byte text at = split_at byte text ≡ onto (take at text) (split_at byte (drop at text))

drop_here : (text : List ℕ) (at : ℕ) → at < length text → drop at text ≡ get_or text at 0 ∷ drop (at + 1) text
drop_here text at h = let one : suc at ≡ at + 1 = omega arith in drop-cons text at 0 h ∙ (λ k. get_or text at 0 ∷ drop (one k) text)

pub splits_next : (byte : ℕ) (text : List ℕ) (at : ℕ) → at < length text → (get_or text at 0 ≡ byte → ⊥) → Splits byte text at → Splits byte text (at + 1)
splits_next byte text at h other s =
    let n : (get_or text at 0 == byte) ≡ false = ne_eqb (get_or text at 0) byte other in
    let rest = drop (at + 1) text in
    let x = get_or text at 0 in
    let one : split_at byte (x ∷ rest) ≡ with_first x (split_at byte rest) = ap (λ b. cond b ([], Some rest) (with_first x (split_at byte rest))) n in
    s ∙ ap (λ l. onto (take at text) (split_at byte l)) (drop_here text at h) ∙ ap (onto (take at text)) one ∙ onto_first (take at text) x (split_at byte rest)
    ∙ ap (λ l. onto l (split_at byte rest)) (sym (take_more text at 0 h))

pub splits_here : (byte : ℕ) (text : List ℕ) (at : ℕ) → at < length text → get_or text at 0 ≡ byte → Splits byte text at
    → split_at byte text ≡ (take at text, Some (drop (at + 1) text))
splits_here byte text at h same s =
    let n : (get_or text at 0 == byte) ≡ true = eq-eqb (get_or text at 0) byte same in
    let rest = drop (at + 1) text in
    let x = get_or text at 0 in
    let one : split_at byte (x ∷ rest) ≡ ([], Some rest) = ap (λ b. cond b ([], Some rest) (with_first x (split_at byte rest))) n in
    s ∙ ap (λ l. onto (take at text) (split_at byte l)) (drop_here text at h) ∙ ap (onto (take at text)) one ∙ onto_none (take at text) (Some rest)

pub splits_end : (byte : ℕ) (text : List ℕ) (at : ℕ) → at ≡ length text → Splits byte text at → split_at byte text ≡ (take at text, None)
splits_end byte text at h s =
    s ∙ ap (λ l. onto (take at text) (split_at byte l)) (drop_all at text (omega (arith, h))) ∙ onto_none (take at text) None
