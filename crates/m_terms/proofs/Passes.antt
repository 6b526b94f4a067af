-- A spelling takes at least one token: the rest is a proper suffix.
use Rattle.std.proofs.Common.{◌≡◌, ◌<◌, ◌+◌, ℕ, zero, suc, List, ◌∷◌, length, drop, Option, ap, arith}
use Rattle.m_lexer.proofs.ChainComplete.{Shrinks}
use Rattle.m_lexer.specs.declared.token.Token.{Token}
use Rattle.m_lexer.specs.Chains.{First, first, Chain, ended, further}
use Rattle.m_terms.specs.Tokens.{Joined, joined}

-- rest is ts without one or more of its first tokens
pub data Behind : List Token → List Token → Type 0 where
  next : {t : Token} {ts : List Token} → Behind ts (t ∷ ts)
  later : {t : Token} {ts rest : List Token} → Behind rest ts → Behind rest (t ∷ ts)

pub over : {ts mid rest : List Token} → Behind mid ts → Behind rest mid → Behind rest ts
over next b = later b
over (later a) b = later (over a b)

pub skip : {t : Token} {ts us : List Token} → Behind (t ∷ us) ts → Behind us ts
skip a = over a next

pub behind_shorter : {ts rest : List Token} → Behind rest ts → length rest < length ts
behind_shorter next = omega arith
behind_shorter (later b) = omega (arith, behind_shorter b)

pub behind_drop : {ts rest : List Token} → Behind rest ts → (n : ℕ) → n + length rest ≡ length ts → rest ≡ drop n ts
behind_drop (next {t = t} {ts = ts}) n e = let one : 1 ≡ n = omega arith in ap (λ k. drop k (t ∷ ts)) one
behind_drop (later b) zero e = absurd (omega (arith, behind_shorter b))
behind_drop (later b) (suc n) e = behind_drop b n (omega arith)

abbrev pub Passes : {A : Type 0} → (A → List Token → List Token → Type 0) → Type 0
Passes {A} R = (x : A) (ts rest : List Token) → R x ts rest → Behind rest ts

pub shrinks_passing : {A : Type 0} (R : A → List Token → List Token → Type 0) → Passes R → Shrinks R
shrinks_passing R passes _ _ _ d = behind_shorter (passes _ _ _ d)

pub first_passes : {B : Type 0} {table : Token → Option B} {b : B} {ts rest : List Token} → First table b ts rest → Behind rest ts
first_passes (first e) = next

module _ {A B X : Type 0} (opens : Token → Option B) (made : B → A → X) (R : A → List Token → List Token → Type 0) (passes : Passes R) where
  pub chain_passes : {xs : List X} {ts mid rest : List Token} → Behind mid ts → Chain opens made R xs mid rest → Behind rest ts
  chain_passes b ended = b
  chain_passes b (further o d c) = chain_passes (over (skip b) (passes _ _ _ d)) c

pub joined_passes : {A : Type 0} (opens : Token → Option (Unit {0})) (R : A → List Token → List Token → Type 0) → Passes R → Passes (Joined opens R)
joined_passes opens R passes _ _ _ (joined d c) = chain_passes opens (λ _ x. x) R passes (passes _ _ _ d) c
