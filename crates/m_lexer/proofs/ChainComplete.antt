-- Completeness of parsers: tools. What the grammar derives, the parser returns.
use Rattle.std.proofs.Common.{◌≡◌, ◌≤◌, ◌<◌, ℕ, zero, suc, List, [], ◌∷◌, ◌++◌, length, Option, Some, None, refl, ap, ◌∙◌, append_assoc, arith}
use Rattle.std.proofs.lemmas.List.{append-nil}
use Rattle.m_lexer.specs.Chains.{First, first, Chain, ended, further}
use Rattle.m_lexer.specs.inner.Chains.{open_at, chain_at}

-- p parses each derivation of R that is followed by tokens in S
abbrev pub Complete : {T A : Type 0} → (List T → Type 0) → (A → List T → List T → Type 0) → (List T → Option (A × List T)) → Type 0
Complete {T} {A} S R p = (x : A) (ts rest : List T) → R x ts rest → S rest → p ts ≡ Some (x, rest)

abbrev pub Shrinks : {T A : Type 0} → (A → List T → List T → Type 0) → Type 0
Shrinks {T} {A} R = (x : A) (ts rest : List T) → R x ts rest → length rest < length ts

pub open_complete : {T B : Type 0} {table : T → Option B} {b : B} {ts rest : List T} → First table b ts rest → open_at table ts ≡ Some (b, rest)
open_complete (first e) = rw e refl

module _ {T A B X : Type 0} (opens : T → Option B) (made : B → A → X) (R : A → List T → List T → Type 0) (shrinks : Shrinks R) where
  pub chain_shrinks : {xs : List X} {ts rest : List T} → Chain opens made R xs ts rest → length rest ≤ length ts
  chain_shrinks ended = omega arith
  chain_shrinks (further o d c) = omega (arith, shrinks _ _ _ d, chain_shrinks c)

  -- An operand R may be followed by another link, and by whatever may follow the chain, which opens
  -- no link.
  module _ (p : List T → Option (A × List T)) (S E : List T → Type 0) (complete : Complete S R p) (binds : (t : T) (b : B) (ts : List T) → opens t ≡ Some b
      → S (t ∷ ts)) (weaker : (ts : List T) → E ts → S ts) (closed : (ts : List T) → E ts → open_at opens ts ≡ None) where
    pub chain_binds : {xs : List X} {ts rest : List T} → Chain opens made R xs ts rest → E rest → S ts
    chain_binds ended h = weaker _ h
    chain_binds (further o d c) h = binds _ _ _ o

    pub chain_complete : (n : ℕ) {xs : List X} {ts rest : List T} (done : List X) → Chain opens made R xs ts rest → E rest → length ts ≤ n
        → chain_at opens made p n done ts ≡ Some (done ++ xs, rest)
    unfolding chain_at
    chain_complete zero done ended h l = rw append-nil refl
    chain_complete (suc n) {ts = ts} done ended h l = rw (closed ts h, append-nil) refl
    chain_complete zero done (further o d c) h l = absurd (omega arith)
    chain_complete (suc n) {rest = rest} done (further {b = b} {x = x} {xs = xs} o d c) h l =
        rw (o, complete _ _ _ d (chain_binds c h)) (chain_complete n (done ++ made b x ∷ []) c h (omega (arith, shrinks _ _ _ d))
        ∙ ap (λ l. Some (l, rest)) (append_assoc done (made b x ∷ []) xs))
