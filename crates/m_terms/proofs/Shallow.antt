-- Where no token is too deep, every spelling of any depth is one within the bound.
use Rattle.std.proofs.Common.{◌≡◌, ◌<◌, ◌≤◌, ◌+◌, ◌-◌, ℕ, zero, suc, Bool, true, false, cond, nat_lt, ◌∙◌, drop, List, [], ◌∷◌, Option, Some, None, refl, sym}
use Rattle.std.proofs.Common.{subst, arith}
use Rattle.std.proofs.lemmas.Bool.{ltb-false}
use Rattle.m_places.specs.declared.place.Place.{Place}
use Rattle.m_places.specs.declared.limits.TheConstants.{BRACKET_DEPTH}
use Rattle.m_fixed.specs.declared.operator.Op.{Op}
use Rattle.m_lexer.specs.declared.token.Token.{Token}
use Rattle.m_lexer.specs.declared.token.Kind.{Kind}
use Rattle.m_lexer.specs.declared.token.Kind.TheVariants.{Word, Number, Text, Key, Sign}
use Rattle.m_lexer.specs.declared.token.Key.{Key as AKey}
use Rattle.m_lexer.specs.declared.token.Key.TheVariants as keys
use Rattle.m_lexer.specs.declared.token.Sign.TheVariants as signs
use Rattle.m_ast.specs.Syntax.{Syntax}
use Rattle.m_terms.specs.Terms.{SpellsTerm}
use Rattle.m_ast.specs.declared.term.Link.{Link}
use Rattle.m_terms.specs.Depth.{depth_behind, first_too_deep}
use Rattle.m_lexer.specs.Chains.{First, first, Chain, ended, further}
use Rattle.m_terms.specs.Tokens.{at, sign, key, is_sign, is_key, kind_is_sign, kind_is_key, Joined, joined}
use Rattle.m_terms.specs.Headers.{point, point_of, letter, letter_of, letter_at_place, SpellsSpan, SpellsValues, SpellsPlaces, SpellsAssigned, SpellsWalked}
use Rattle.m_terms.specs.Headers.{SpellsHeader, bare, bracketed, assigned, walked, by_signs, by_words}
use Rattle.m_terms.specs.Headers.{alone as one_value, range as values_between}
use Rattle.m_terms.specs.Grammar.{addition, addition_of, multiplication, multiplication_of, conjunction, conjunction_of, disjunction, disjunction_of}
use Rattle.m_terms.specs.Grammar.{comparison, comparison_of, function_of, link, Gathered, gather, SpellsPrim, number, word, own, read, brackets, either, only}
use Rattle.m_terms.specs.Grammar.{called, called_two, looped, SpellsFactor, plain, minus, SpellsProduct, SpellsSum, SpellsSigned, positive, negative}
use Rattle.m_terms.specs.Grammar.{SpellsMember, amount, name, range, SpellsMembers, SpellsRelation, alone, compared, inside, outside, SpellsNegation, affirmed}
use Rattle.m_terms.specs.Grammar.{negated, SpellsConjunction, SpellsExpr, SpellsInner}

-- no token is too deep, if the depth before the first one is k
record Clear (k : ℕ) (ts : List Token) : Type 0 where
  none : first_too_deep BRACKET_DEPTH k ts ≡ None

-- neither the next token nor any later one is too deep
record Onward (k : ℕ) (ts : List Token) : Type 0 where
  shallow : k ≤ BRACKET_DEPTH
  clear : Clear k ts

step : (k : ℕ) (t : Token) (ts : List Token) → Clear k (t ∷ ts) → Onward (depth_behind k t.kind) ts
step k t ts h = go (nat_lt BRACKET_DEPTH (depth_behind k t.kind)) refl h.none
  where
    go : (b : Bool) → nat_lt BRACKET_DEPTH (depth_behind k t.kind) ≡ b → cond b (Some t.place) (first_too_deep BRACKET_DEPTH (depth_behind k t.kind) ts) ≡ None
        → Onward (depth_behind k t.kind) ts
    go true e h = absurd (cc)
    go false e h = record { shallow = ltb-false BRACKET_DEPTH (depth_behind k t.kind) e; clear = record { none = h } }

-- whether a token changes the depth
abbrev turns : Kind → Bool
turns (Sign signs.OpenParen) = true
turns (Sign signs.OpenBracket) = true
turns (Sign signs.CloseParen) = true
turns (Sign signs.CloseBracket) = true
turns (Key keys.Si) = true
turns (Key keys.Finsi) = true
turns (Key keys.Erreur) = true
turns (Key keys.Regle) = true
turns (Key keys.Verif) = true
turns _ = false

still : (k : ℕ) (a : Kind) → turns a ≡ false → depth_behind k a ≡ k
still k (Sign signs.OpenParen) e = absurd (cc)
still k (Sign signs.OpenBracket) e = absurd (cc)
still k (Sign signs.CloseParen) e = absurd (cc)
still k (Sign signs.CloseBracket) e = absurd (cc)
still k (Key keys.Si) e = absurd (cc)
still k (Key keys.Finsi) e = absurd (cc)
still k (Key keys.Erreur) e = absurd (cc)
still k (Key keys.Regle) e = absurd (cc)
still k (Key keys.Verif) e = absurd (cc)
still k _ e = refl

-- a token that doesn't change the depth
pass : (k : ℕ) (t : Token) (ts : List Token) → turns t.kind ≡ false → Clear k (t ∷ ts) → Clear k ts
pass k t ts e h = subst (λ n. Clear n ts) (still k t.kind e) (step k t ts h).clear

-- a token that adds a level, and one that closes it
deeper : (k : ℕ) (t : Token) (ts : List Token) → depth_behind k t.kind ≡ k + 1 → Clear k (t ∷ ts) → (k < BRACKET_DEPTH) × Clear (k + 1) ts
deeper k t ts e h = let s : Onward (depth_behind k t.kind) ts = step k t ts h in (omega (arith, s.shallow, e), subst (λ n. Clear n ts) e s.clear)

back : (k : ℕ) (t : Token) (ts : List Token) → depth_behind (k + 1) t.kind ≡ (k + 1) - 1 → Clear (k + 1) (t ∷ ts) → Clear k ts
back k t ts e h = let one : (k + 1) - 1 ≡ k = omega arith in subst (λ n. Clear n ts) (e ∙ one) (step (k + 1) t ts h).clear

-- The tables that are defined only at tokens that don't change the depth.
point_still : (a : Kind) (w : List ℕ) → point_of a ≡ Some w → turns a ≡ false
point_still (Word w) v e = refl
point_still (Number z n) v e = refl
point_still (Key keys.X) v e = refl
point_still _ v e = absurd (cc)

letter_still : (a : Kind) (p : Place) (l : ℕ × Place) → letter_at_place (letter_of a) p ≡ Some l → turns a ≡ false
letter_still (Word w) p l e = refl
letter_still _ p l e = absurd (cc)

comma_still : (a : Kind) (b : Unit {0}) → kind_is_sign signs.Comma a ≡ Some b → turns a ≡ false
comma_still (Sign signs.Comma) b e = refl
comma_still _ b e = absurd (cc)

semicolon_still : (a : Kind) (b : Unit {0}) → kind_is_sign signs.Semicolon a ≡ Some b → turns a ≡ false
semicolon_still (Sign signs.Semicolon) b e = refl
semicolon_still _ b e = absurd (cc)

et_still : (a : Kind) (b : Unit {0}) → kind_is_key keys.Et a ≡ Some b → turns a ≡ false
et_still (Key keys.Et) b e = refl
et_still _ b e = absurd (cc)

adds_still : (a : Kind) (b : Op) → addition_of a ≡ Some b → turns a ≡ false
adds_still (Sign signs.Plus) b e = refl
adds_still (Sign signs.Minus) b e = refl
adds_still _ b e = absurd (cc)

multiplies_still : (a : Kind) (b : Op) → multiplication_of a ≡ Some b → turns a ≡ false
multiplies_still (Sign signs.Star) b e = refl
multiplies_still (Sign signs.Slash) b e = refl
multiplies_still _ b e = absurd (cc)

conjoins_still : (a : Kind) (b : Op) → conjunction_of a ≡ Some b → turns a ≡ false
conjoins_still (Key keys.Et) b e = refl
conjoins_still _ b e = absurd (cc)

disjoins_still : (a : Kind) (b : Op) → disjunction_of a ≡ Some b → turns a ≡ false
disjoins_still (Key keys.Ou) b e = refl
disjoins_still _ b e = absurd (cc)

compares_still : (a : Kind) (b : Op) → comparison_of a ≡ Some b → turns a ≡ false
compares_still (Sign signs.Equal) b e = refl
compares_still (Sign signs.NotEqual) b e = refl
compares_still (Sign signs.Less) b e = refl
compares_still (Sign signs.LessEqual) b e = refl
compares_still (Sign signs.Greater) b e = refl
compares_still (Sign signs.GreaterEqual) b e = refl
compares_still _ b e = absurd (cc)

function_still : (a : AKey) (f : Op × Bool) → function_of a ≡ Some f → turns (Key a) ≡ false
function_still keys.Si f e = absurd (cc)
function_still keys.Finsi f e = absurd (cc)
function_still keys.Erreur f e = absurd (cc)
function_still keys.Regle f e = absurd (cc)
function_still keys.Verif f e = absurd (cc)
function_still _ f e = refl

-- Headers and members leave the depth unchanged.
abbrev Keeps : {A : Type 0} → (A → List Token → List Token → Type 0) → Type 0
Keeps {A} R = (k : ℕ) (x : A) (ts rest : List Token) → R x ts rest → Clear k ts → Clear k rest

first_keeps : {B : Type 0} (table : Token → Option B) → ((t : Token) (b : B) → table t ≡ Some b → turns t.kind ≡ false) → Keeps (First table)
first_keeps table quiet k _ _ _ (first {t = t} e) h = pass k t _ (quiet t _ e) h

chain_keeps : {A : Type 0} (opens : Token → Option (Unit {0})) (R : A → List Token → List Token → Type 0)
    → ((t : Token) (b : Unit {0}) → opens t ≡ Some b → turns t.kind ≡ false) → Keeps R → (k : ℕ) {xs : List A} {ts rest : List Token}
    → Chain opens (λ _ x. x) R xs ts rest → Clear k ts → Clear k rest
chain_keeps opens R quiet keeps k ended h = h
chain_keeps opens R quiet keeps k (further {t = t} o d c) h = chain_keeps opens R quiet keeps k c (keeps k _ _ _ d (pass k t _ (quiet t _ o) h))

joined_keeps : {A : Type 0} (opens : Token → Option (Unit {0})) (R : A → List Token → List Token → Type 0)
    → ((t : Token) (b : Unit {0}) → opens t ≡ Some b → turns t.kind ≡ false) → Keeps R → Keeps (Joined opens R)
joined_keeps opens R quiet keeps k _ _ _ (joined d c) h = chain_keeps opens R quiet keeps k c (keeps k _ _ _ d h)

point_keeps : Keeps (First point)
point_keeps = first_keeps point (λ t b e. point_still t.kind b e)

letter_keeps : Keeps (First letter)
letter_keeps = first_keeps letter (λ t b e. letter_still t.kind t.place b e)

span_keeps : Keeps SpellsSpan
span_keeps k _ _ _ (one_value d) h = point_keeps k _ _ _ d h
span_keeps k _ _ _ (values_between d f) h = point_keeps k _ _ _ f (pass k _ _ refl (point_keeps k _ _ _ d h))

values_keeps : Keeps SpellsValues
values_keeps = joined_keeps (is_sign signs.Comma) SpellsSpan (λ t b e. comma_still t.kind b e) span_keeps

places_keeps : Keeps SpellsPlaces
places_keeps k _ _ _ (bare d) h = values_keeps k _ _ _ d h
places_keeps k _ _ _ (bracketed d) h = back k _ _ refl (values_keeps (k + 1) _ _ _ d (deeper k _ _ refl h).1)

assigned_keeps : Keeps SpellsAssigned
assigned_keeps k _ _ _ (assigned d f) h = values_keeps k _ _ _ f (pass k _ _ refl (letter_keeps k _ _ _ d h))

walked_keeps : Keeps SpellsWalked
walked_keeps k _ _ _ (walked d f) h = places_keeps k _ _ _ f (pass k _ _ refl (letter_keeps k _ _ _ d (pass k _ _ refl h)))

header_keeps : Keeps SpellsHeader
header_keeps k _ _ _ (by_signs d) h = joined_keeps (is_sign signs.Semicolon) SpellsAssigned (λ t b e. semicolon_still t.kind b e) assigned_keeps k _ _ _ d h
header_keeps k _ _ _ (by_words d) h = joined_keeps (is_key keys.Et) SpellsWalked (λ t b e. et_still t.kind b e) walked_keeps k _ _ _ d h

signed_keeps : Keeps SpellsSigned
signed_keeps k _ _ _ positive h = pass k _ _ refl h
signed_keeps k _ _ _ negative h = pass k _ _ refl (pass k _ _ refl h)

member_keeps : Keeps SpellsMember
member_keeps k _ _ _ (amount d) h = signed_keeps k _ _ _ d h
member_keeps k _ _ _ name h = pass k _ _ refl h
member_keeps k _ _ _ (range d f) h = signed_keeps k _ _ _ f (pass k _ _ refl (signed_keeps k _ _ _ d h))

members_keeps : Keeps SpellsMembers
members_keeps = joined_keeps (is_sign signs.Comma) SpellsMember (λ t b e. comma_still t.kind b e) member_keeps

-- Terms, where inner is the case of one level more.
module _ (E F : Syntax → List Token → List Token → Type 0) (k : ℕ) (inner : k < BRACKET_DEPTH → (t : Syntax) (ts rest : List Token) → E t ts rest
    → Clear (k + 1) ts → F t ts rest × Clear (k + 1) rest) where
  abbrev Grows : (Syntax → List Token → List Token → Type 0) → (Syntax → List Token → List Token → Type 0) → Type 0
  Grows R S = (t : Syntax) (ts rest : List Token) → R t ts rest → Clear k ts → S t ts rest × Clear k rest

  prim_grows : Grows (SpellsPrim E) (SpellsPrim F)
  prim_grows _ _ _ number h = (number, pass k _ _ refl h)
  prim_grows _ _ _ word h = (word, pass k _ _ refl h)
  prim_grows _ _ _ own h = (own, pass k _ _ refl h)
  prim_grows _ _ _ (read d) h =
      let o = deeper k _ _ refl (pass k _ _ refl h) in
      let r = inner o.0 _ _ _ d o.1 in
      (read r.0, back k _ _ refl r.1)
  prim_grows _ _ _ (brackets d) h =
      let o = deeper k _ _ refl h in
      let r = inner o.0 _ _ _ d o.1 in
      (brackets r.0, back k _ _ refl r.1)
  prim_grows _ _ _ (either a b c) h =
      let o = deeper k _ _ refl h in
      let x = inner o.0 _ _ _ a o.1 in
      let y = inner o.0 _ _ _ b (pass (k + 1) _ _ refl x.1) in
      let z = inner o.0 _ _ _ c (pass (k + 1) _ _ refl y.1) in
      (either x.0 y.0 z.0, back k _ _ refl z.1)
  prim_grows _ _ _ (only a b) h =
      let o = deeper k _ _ refl h in
      let x = inner o.0 _ _ _ a o.1 in
      let y = inner o.0 _ _ _ b (pass (k + 1) _ _ refl x.1) in
      (only x.0 y.0, back k _ _ refl y.1)
  prim_grows _ _ _ (called {k = f} i d) h =
      let o = deeper k _ _ refl (pass k _ _ (function_still f _ i) h) in
      let r = inner o.0 _ _ _ d o.1 in
      (called i r.0, back k _ _ refl r.1)
  prim_grows _ _ _ (called_two {k = f} i a b) h =
      let o = deeper k _ _ refl (pass k _ _ (function_still f _ i) h) in
      let x = inner o.0 _ _ _ a o.1 in
      let y = inner o.0 _ _ _ b (pass (k + 1) _ _ refl x.1) in
      (called_two i x.0 y.0, back k _ _ refl y.1)
  prim_grows _ _ _ (looped g d) h =
      let o = deeper k _ _ refl (pass k _ _ refl h) in
      let r = inner o.0 _ _ _ d (pass (k + 1) _ _ refl (header_keeps (k + 1) _ _ _ g o.1)) in
      (looped g r.0, back k _ _ refl r.1)

  factor_grows : Grows (SpellsFactor E) (SpellsFactor F)
  factor_grows _ _ _ (plain d) h = let r = prim_grows _ _ _ d h in (plain r.0, r.1)
  factor_grows _ _ _ (minus d) h = let r = prim_grows _ _ _ d (pass k _ _ refl h) in (minus r.0, r.1)

  module _ (operator : Token → Option Op) (R S : Syntax → List Token → List Token → Type 0) (quiet : (t : Token) (b : Op) → operator t ≡ Some b
      → turns t.kind ≡ false) (grows : Grows R S) where
    chain_grows : {os : List Link} {ts rest : List Token} → Chain operator link R os ts rest → Clear k ts → Chain operator link S os ts rest × Clear k rest
    chain_grows ended h = (ended, h)
    chain_grows (further {t = t} o d c) h =
        let r = grows _ _ _ d (pass k t _ (quiet t _ o) h) in
        let q = chain_grows c r.1 in
        (further o r.0 q.0, q.1)

    gathered_grows : Grows (Gathered operator R) (Gathered operator S)
    gathered_grows _ _ _ (gather d c e) h =
        let r = grows _ _ _ d h in
        let q = chain_grows c r.1 in
        (gather r.0 q.0 e, q.1)

  sum_grows : Grows (SpellsSum E) (SpellsSum F)
  sum_grows = gathered_grows addition (SpellsProduct E) (SpellsProduct F) (λ t b e. adds_still t.kind b e)
      (gathered_grows multiplication (SpellsFactor E) (SpellsFactor F) (λ t b e. multiplies_still t.kind b e) factor_grows)

  relation_grows : Grows (SpellsRelation E) (SpellsRelation F)
  relation_grows _ _ _ (alone d) h = let r = sum_grows _ _ _ d h in (alone r.0, r.1)
  relation_grows _ _ _ (compared {t = t} d i f) h =
      let r = sum_grows _ _ _ d h in
      let q = sum_grows _ _ _ f (pass k t _ (compares_still t.kind _ i) r.1) in
      (compared r.0 i q.0, q.1)
  relation_grows _ _ _ (inside d m) h =
      let r = sum_grows _ _ _ d h in
      (inside r.0 m, back k _ _ refl (members_keeps (k + 1) _ _ _ m (deeper k _ _ refl (pass k _ _ refl r.1)).1))
  relation_grows _ _ _ (outside d m) h =
      let r = sum_grows _ _ _ d h in
      (outside r.0 m, back k _ _ refl (members_keeps (k + 1) _ _ _ m (deeper k _ _ refl (pass k _ _ refl (pass k _ _ refl r.1))).1))

  negation_grows : Grows (SpellsNegation E) (SpellsNegation F)
  negation_grows _ _ _ (affirmed d) h = let r = relation_grows _ _ _ d h in (affirmed r.0, r.1)
  negation_grows _ _ _ (negated d) h = let r = relation_grows _ _ _ d (pass k _ _ refl h) in (negated r.0, r.1)

  expr_grows : Grows (SpellsExpr E) (SpellsExpr F)
  expr_grows = gathered_grows disjunction (SpellsConjunction E) (SpellsConjunction F) (λ t b e. disjoins_still t.kind b e)
      (gathered_grows conjunction (SpellsNegation E) (SpellsNegation F) (λ t b e. conjoins_still t.kind b e) negation_grows)

grow : (d k j : ℕ) → BRACKET_DEPTH ≤ k + j → (t : Syntax) (ts rest : List Token) → SpellsExpr (SpellsInner d) t ts rest → Clear k ts
    → SpellsExpr (SpellsInner j) t ts rest × Clear k rest
unfolding SpellsInner
grow zero k j e = expr_grows (SpellsInner zero) (SpellsInner j) k (λ l t ts rest x h. absurd x)
grow (suc d) k zero e = expr_grows (SpellsInner (suc d)) (SpellsInner zero) k (λ l t ts rest x h. absurd (omega arith))
grow (suc d) k (suc j) e = expr_grows (SpellsInner (suc d)) (SpellsInner (suc j)) k (λ l t ts rest x h. grow d (k + 1) j (omega arith) t ts rest x h)

-- the tokens after a prefix
onward : (from k : ℕ) (ts : List Token) → Clear k ts → (n : ℕ) × Clear n (drop from ts)
onward zero k ts h = (k, h)
onward (suc from) k [] h = (k, h)
onward (suc from) k (t ∷ ts) h = onward from (depth_behind k t.kind) ts (step k t ts h).clear

pub shallow : (tokens : List Token) (from d : ℕ) (t : Syntax) (rest : List Token) → first_too_deep BRACKET_DEPTH 0 tokens ≡ None
    → SpellsExpr (SpellsInner d) t (drop from tokens) rest → SpellsTerm t (drop from tokens) rest
shallow tokens from d t rest h s =
    let c : (n : ℕ) × Clear n (drop from tokens) = onward from 0 tokens (record { none = h }) in
    (grow d c.0 BRACKET_DEPTH (omega arith) t (drop from tokens) rest s c.1).0
