-- The content of brackets, by how many more levels may be opened.
use Rattle.std.proofs.Common.{◌≡◌, ℕ, zero, suc, ◌-◌, List, None, refl, ap, arith}
use Rattle.m_lexer.specs.declared.token.Token.{Token}
use Rattle.m_terms.specs.declared.cursor.Level.{Level}
use Rattle.m_terms.specs.declared.cursor.Level.TheVariants.{Disjunction, Conjunction, Sum, Product}
use Rattle.m_terms.specs.inner.Reading.{inner_at, expr_at}

pub inner_none : (d : ℕ) (ts : List Token) → d ≡ 0 → inner_at d ts ≡ None
unfolding inner_at
inner_none d ts e = ap (λ n. inner_at n ts) e

pub inner_some : (d : ℕ) (ts : List Token) → (d ≡ 0 → ⊥) → inner_at d ts ≡ expr_at (inner_at (d - 1)) ts
unfolding inner_at
inner_some zero ts h = absurd (h refl)
inner_some (suc d) ts h = ap (λ n. expr_at (inner_at n) ts) (omega arith)

-- the measure of the recursion: how many calls the readers of a level are above the content of
-- brackets
abbrev pub floor : Level → ℕ
floor Product = 7
floor Sum = 10
floor Conjunction = 15
floor Disjunction = 18
