-- Completeness of lists with separators: every spelling is read.
use Rattle.std.proofs.Common.{◌≡◌, ℕ, List, [], ◌∷◌, length, Option, Some, None, refl, arith}
use Rattle.m_lexer.specs.declared.token.Token.{Token}
use Rattle.m_terms.specs.Tokens.{Joined, joined}
use Rattle.m_lexer.specs.inner.Chains.{open_at}
use Rattle.m_lexer.proofs.ChainComplete.{Complete, chain_binds, chain_complete}
use Rattle.m_terms.specs.inner.Reading.{joined_at}
use Rattle.m_terms.proofs.Passes.{Passes, shrinks_passing}

pub joined_complete : {A : Type 0} (opens : Token → Option (Unit {0})) (R : A → List Token → List Token → Type 0) (p : List Token → Option (A × List Token))
    (S T : List Token → Type 0) → Passes R → Complete S R p → ((t : Token) (b : Unit {0}) (ts : List Token) → opens t ≡ Some b → S (t ∷ ts))
    → ((ts : List Token) → T ts → S ts) → ((ts : List Token) → T ts → open_at opens ts ≡ None) → Complete T (Joined opens R) (joined_at opens p)
unfolding joined_at
joined_complete opens R p S T passes complete binds weaker closed _ _ _ (joined {x = x} {mid = mid} d c) h =
    rw (complete _ _ _ d (chain_binds opens (λ _ x. x) R (shrinks_passing R passes) p S T complete binds weaker closed c h))
    (chain_complete opens (λ _ x. x) R (shrinks_passing R passes) p S T complete binds weaker closed (length mid) (x ∷ []) c h (omega arith))
