-- Tools for soundness: what is read is a spelling.
use Rattle.std.proofs.Common.{◌≡◌, Bool, true, false, cond, List, [], ◌∷◌, Option, Some, None, refl, sym, ap, subst}
use denote.Enum.Bare.{same_true}
use Rattle.m_places.specs.declared.place.Place.{Place}
use Rattle.m_lexer.specs.contracts.token.Sign as sign_row
use Rattle.m_lexer.specs.contracts.token.Key as key_row
use Rattle.m_lexer.specs.declared.token.Token.{Token}
use Rattle.m_lexer.specs.declared.token.Kind.{Kind}
use Rattle.m_lexer.specs.declared.token.Kind.TheVariants.{Word, Number, Text, Key, Sign}
use Rattle.m_lexer.specs.declared.token.Key.{Key as AKey}
use Rattle.m_lexer.specs.declared.token.Sign.{Sign as ASign}
use Rattle.m_terms.specs.declared.cursor.Mark.{Mark}
use Rattle.m_terms.specs.declared.cursor.Mark.TheVariants.{OfKey, OfSign}
use Rattle.m_terms.specs.Tokens.{at, sign, key, same_sign, same_key, Joined, joined}
use Rattle.m_lexer.specs.inner.Chains.{choose}
use Rattle.m_lexer.proofs.ChainSound.{Each, absent, here, bind_each, each_from, Sound, chain_sound}
use Rattle.m_terms.specs.inner.Reading.{mark_at, joined_at}

-- a reserved word or a sign at a place
abbrev pub token : Mark → Place → Token
token (OfKey k) p = key k p
token (OfSign s) p = sign s p

-- ts are this token and the remaining ones
abbrev pub Marked : Mark → List Token → Unit {0} × List Token → Type 0
Marked m ts o = (p : Place) × (ts ≡ token m p ∷ o.1)

sign_each : (s : ASign) (k : Kind) (p : Place) (ts : List Token) → Each (Marked (OfSign s) (at k p ∷ ts)) (mark_at (OfSign s) (at k p ∷ ts))
sign_each s (Word w) p ts = absent
sign_each s (Number z n) p ts = absent
sign_each s (Text w) p ts = absent
sign_each s (Key k) p ts = absent
sign_each s (Sign t) p ts = go (same_sign t s) refl
  where
    go : (b : Bool) → same_sign t s ≡ b → Each (Marked (OfSign s) (sign t p ∷ ts)) (choose (cond b (Some tt) None) None (λ b. Some (b, ts)))
    go true e = here (p, ap (λ x. sign x p ∷ ts) (same_true sign_row.the_type tt t s e))
    go false e = absent

key_each : (k : AKey) (a : Kind) (p : Place) (ts : List Token) → Each (Marked (OfKey k) (at a p ∷ ts)) (mark_at (OfKey k) (at a p ∷ ts))
key_each k (Word w) p ts = absent
key_each k (Number z n) p ts = absent
key_each k (Text w) p ts = absent
key_each k (Sign s) p ts = absent
key_each k (Key j) p ts = go (same_key j k) refl
  where
    go : (b : Bool) → same_key j k ≡ b → Each (Marked (OfKey k) (key j p ∷ ts)) (choose (cond b (Some tt) None) None (λ b. Some (b, ts)))
    go true e = here (p, ap (λ x. key x p ∷ ts) (same_true key_row.the_type tt j k e))
    go false e = absent

pub mark_each : (m : Mark) (ts : List Token) → Each (Marked m ts) (mark_at m ts)
mark_each m [] = absent
mark_each (OfSign s) (t ∷ ts) = sign_each s t.kind t.place ts
mark_each (OfKey k) (t ∷ ts) = key_each k t.kind t.place ts

pub joined_sound : {A : Type 0} (opens : Token → Option (Unit {0})) (R : A → List Token → List Token → Type 0) (p : List Token → Option (A × List Token))
    → Sound R p → Sound (Joined opens R) (joined_at opens p)
unfolding joined_at
joined_sound opens R p sound ts =
    bind_each (sound ts) (λ x d.
    each_from (chain_sound opens (λ _ x. x) R p sound _ _ _) (λ xs c.
    subst (λ l. Joined opens R l ts xs.1) (sym c.all) (joined d c.chain)))
