-- The loop of a chain's parser: the links parsed and those of the rest are the whole chain.
use Rattle.std.proofs.Common.{◌≡◌, ◌≤◌, ◌<◌, ℕ, zero, suc, List, [], ◌∷◌, ◌++◌, length, Option, Some, None, refl, sym, ◌∙◌, arith}
use Rattle.m_lexer.specs.inner.Chains.{open_at, chain_at}

module _ {T A B X : Type 0} (opens : T → Option B) (made : B → A → X) (p : List T → Option (A × List T)) where
  -- after the links `done`, with the tokens ts left, the chain is `whole`
  pub record Going (whole : Option (List X × List T)) (done : List X) (ts : List T) : Type 0 where
    pub left : ℕ
    pub enough : length ts ≤ left
    pub same : chain_at opens made p left done ts ≡ whole

  module _ {whole : Option (List X × List T)} {done : List X} {ts : List T} where
    pub chain_start : whole ≡ chain_at opens made p (length ts) done ts → Going whole done ts
    chain_start e = record { left = length ts; enough = omega arith; same = sym e }

    pub chain_turn : {b : B} {x : A} {us rest : List T} → Going whole done ts → open_at opens ts ≡ Some (b, us) → p us ≡ Some (x, rest)
        → length rest < length ts → Going whole (done ++ made b x ∷ []) rest
    unfolding chain_at
    chain_turn {b} {x} {us} {rest} g o r shorter = go g.left g.enough g.same
      where
        go : (n : ℕ) → length ts ≤ n → chain_at opens made p n done ts ≡ whole → Going whole (done ++ made b x ∷ []) rest
        go zero enough same = absurd (omega arith)
        go (suc n) enough same = record { left = n; enough = omega arith; same = sym (rw (o, r) refl) ∙ same }

    pub chain_stop : Going whole done ts → open_at opens ts ≡ None → whole ≡ Some (done, ts)
    unfolding chain_at
    chain_stop g o = sym g.same ∙ go g.left
      where
        go : (n : ℕ) → chain_at opens made p n done ts ≡ Some (done, ts)
        go zero = refl
        go (suc n) = rw o refl

    pub chain_stuck : {b : B} {us : List T} → Going whole done ts → open_at opens ts ≡ Some (b, us) → length us < length ts → p us ≡ None → whole ≡ None
    unfolding chain_at
    chain_stuck g o shorter r = sym g.same ∙ go g.left g.enough
      where
        go : (n : ℕ) → length ts ≤ n → chain_at opens made p n done ts ≡ None
        go zero enough = absurd (omega arith)
        go (suc n) enough = rw (o, r) refl
