-- A loop over a repeated part: the invariant is that the finished parts and those that the rest
-- adds are the whole.
use Rattle.std.proofs.Common.{◌≡◌, ◌≤◌, ◌<◌, ℕ, zero, suc, List, [], ◌∷◌, ◌++◌, length, Option, Some, None, refl, sym, ap, ◌∙◌, arith}
use Rattle.m_lexer.specs.declared.token.Token.{Token}
use Rattle.m_items.specs.inner.RuleReading.{many_at, one_or_more_at}

module _ {A : Type 0} (p : List Token → Option (A × List Token)) where
  -- at ts, with these parts finished, the result will be the whole
  pub record Going (whole : List A × List Token) (done : List A) (ts : List Token) : Type 0 where
    pub left : ℕ
    pub enough : length ts ≤ left
    pub same : many_at p left done ts ≡ whole

  module _ {whole : List A × List Token} {done : List A} {ts : List Token} where
    pub many_start : whole ≡ many_at p (length ts) done ts → Going whole done ts
    many_start e = record { left = length ts; enough = omega arith; same = sym e }

    pub many_turn : {x : A} {rest : List Token} → Going whole done ts → p ts ≡ Some (x, rest) → length rest < length ts → Going whole (done ++ x ∷ []) rest
    unfolding many_at
    many_turn {x} {rest} g r shorter = go g.left g.enough g.same
      where
        go : (n : ℕ) → length ts ≤ n → many_at p n done ts ≡ whole → Going whole (done ++ x ∷ []) rest
        go zero enough same = absurd (omega arith)
        go (suc n) enough same = record { left = n; enough = omega arith; same = sym (rw r refl) ∙ same }

    pub many_stop : Going whole done ts → p ts ≡ None → whole ≡ (done, ts)
    unfolding many_at
    many_stop g r = sym g.same ∙ go g.left
      where
        go : (n : ℕ) → many_at p n done ts ≡ (done, ts)
        go zero = refl
        go (suc n) = rw r refl

  -- one part from these tokens on, and the ones after it, are finished at ts
  pub record Begun (from : List Token) (done : List A) (ts : List Token) : Type 0 where
    pub whole : List A × List Token
    pub all : one_or_more_at p from ≡ Some whole
    pub going : Going whole done ts

  pub begun_start : {x : A} {from ts : List Token} → p from ≡ Some (x, ts) → Begun from (x ∷ []) ts
  unfolding one_or_more_at
  begun_start {x} {from} {ts} e = record { whole = many_at p (length ts) (x ∷ []) ts; all = rw e refl; going = many_start refl }

  pub begun_turn : {x : A} {from ts rest : List Token} {done : List A} → Begun from done ts → p ts ≡ Some (x, rest) → length rest < length ts
      → Begun from (done ++ x ∷ []) rest
  begun_turn b e shorter = record { whole = b.whole; all = b.all; going = many_turn b.going e shorter }

  pub begun_stop : {from ts : List Token} {done : List A} → Begun from done ts → p ts ≡ None → one_or_more_at p from ≡ Some (done, ts)
  begun_stop b e = b.all ∙ ap (λ w. Some w) (many_stop b.going e)

  pub begun_never : {from : List Token} → p from ≡ None → one_or_more_at p from ≡ None
  unfolding one_or_more_at
  begun_never e = rw e refl
