-- The loop over the words of a head, which have no meaning, and the tokens after them.
use Rattle.std.proofs.Common.{◌≡◌, ℕ, List, [], ◌∷◌, Option, Some, None, refl, ap}
use Rattle.m_lexer.specs.declared.token.Token.{Token}
use Rattle.m_lexer.specs.inner.Chains.{open_at, choose}
use Rattle.m_items.specs.Tokens.{word}
use Rattle.m_items.specs.inner.RuleReading.{behind_words}

pub words_turn : (ts : List Token) {w : List ℕ} {rest : List Token} → open_at word ts ≡ Some (w, rest) → behind_words ts ≡ behind_words rest
unfolding behind_words
words_turn [] e = absurd (cc)
words_turn (t ∷ ts) {w} {rest} e = go (word t) e
  where
    go : (o : Option (List ℕ)) → choose {B = Option (List ℕ × List Token)} o None (λ b. Some (b, ts)) ≡ Some (w, rest)
        → choose o (t ∷ ts) (λ w. behind_words ts) ≡ behind_words rest
    go None e = absurd (cc)
    go (Some x) e = let f : ◌≡◌ {A = List ℕ × List Token} (x, ts) (w, rest) = cc in ap behind_words (λ i. (f i).1)

pub words_stop : (ts : List Token) → open_at word ts ≡ None → behind_words ts ≡ ts
unfolding behind_words
words_stop [] e = refl
words_stop (t ∷ ts) e = go (word t) e
  where
    go : (o : Option (List ℕ)) → choose {B = Option (List ℕ × List Token)} o None (λ b. Some (b, ts)) ≡ None
        → choose o (t ∷ ts) (λ w. behind_words ts) ≡ (t ∷ ts)
    go None e = refl
    go (Some x) e = absurd (cc)
