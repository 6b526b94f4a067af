-- One step of the depth count.
use Rattle.std.proofs.Common.{◌≡◌, ◌<◌, ◌≤◌, ◌+◌, ℕ, true, false, nat_lt, List, [], ◌∷◌, zero, drop, length, get_or, Some, None, refl, ◌∙◌, sym, suc, arith}
use Rattle.std.proofs.Math.Seq.{drop-cons}
use Rattle.std.proofs.lemmas.Bool.{lt-ltb, le-ltb}
use Rattle.m_lexer.specs.declared.token.Token.{Token}
use Rattle.m_terms.specs.Depth.{depth_behind, first_too_deep}

drop_next : (xs : List Token) (i : ℕ) (x : Token) → i < length xs → x ≡ get_or xs i x → drop i xs ≡ x ∷ drop (i + 1) xs
drop_next xs i x h e = let one : suc i ≡ i + 1 = omega arith in drop-cons xs i x h ∙ (λ k. sym e k ∷ drop (one k) xs)

not_below : (m n : ℕ) → n ≤ m → nat_lt m n ≡ false
not_below m n h = le-ltb m n h

below : (m n : ℕ) → m < n → nat_lt m n ≡ true
below m n h = lt-ltb m n h

pub shallow_turn : (most k : ℕ) (ts : List Token) (i : ℕ) (t : Token) → i < length ts → t ≡ get_or ts i t → depth_behind k t.kind ≤ most
    → first_too_deep most k (drop i ts) ≡ first_too_deep most (depth_behind k t.kind) (drop (i + 1) ts)
shallow_turn most k ts i t h e s = rw (drop_next ts i t h e, not_below most (depth_behind k t.kind) s) refl

pub deep_turn : (most k : ℕ) (ts : List Token) (i : ℕ) (t : Token) → i < length ts → t ≡ get_or ts i t → most < depth_behind k t.kind
    → first_too_deep most k (drop i ts) ≡ Some t.place
deep_turn most k ts i t h e s = rw (drop_next ts i t h e, below most (depth_behind k t.kind) s) refl

drop_end : (xs : List Token) (i : ℕ) → length xs ≤ i → drop i xs ≡ []
drop_end [] zero h = refl
drop_end [] (suc i) h = refl
drop_end (x ∷ xs) zero h = absurd (omega arith)
drop_end (x ∷ xs) (suc i) h = drop_end xs i (omega arith)

pub shallow_end : (most k : ℕ) (ts : List Token) (i : ℕ) → length ts ≤ i → first_too_deep most k (drop i ts) ≡ None
shallow_end most k ts i h = rw (drop_end ts i h) refl
