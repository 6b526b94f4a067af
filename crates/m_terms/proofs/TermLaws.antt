-- Terms: reading is sound and complete for the grammar, if the next token can't continue the term.
use Rattle.std.proofs.Common.{◌≡◌, ◌<◌, ℕ, zero, suc, Bool, true, false, List, [], ◌∷◌, length, Option, Some, None, refl, sym, ap, ◌∙◌, subst, lit<, arith}
use Rattle.m_places.specs.declared.place.Place.{Place}
use Rattle.m_fixed.specs.declared.operator.Op.{Op}
use Rattle.m_fixed.specs.declared.operator.Op.TheVariants as ops
use Rattle.m_lexer.specs.declared.token.Token.{Token}
use Rattle.m_lexer.specs.declared.token.Kind.{Kind}
use Rattle.m_lexer.specs.declared.token.Kind.TheVariants.{Word, Number, Key, Sign}
use Rattle.m_lexer.specs.declared.token.Key.{Key as AKey}
use Rattle.m_lexer.specs.declared.token.Key.TheVariants as keys
use Rattle.m_lexer.specs.declared.token.Sign.TheVariants as signs
use Rattle.m_ast.specs.declared.term.Member.{Member}
use Rattle.m_ast.specs.Syntax.{Syntax, cell, loop}
use Rattle.m_terms.specs.declared.cursor.Mark.{Mark}
use Rattle.m_terms.specs.declared.cursor.Mark.TheVariants.{OfKey, OfSign}
use Rattle.m_lexer.specs.Chains.{First, first}
use Rattle.m_terms.specs.Tokens.{at, sign, key, kind_is_sign, kind_is_key}
use Rattle.m_terms.specs.Headers.{SpellsHeader}
use Rattle.m_terms.specs.Grammar.{one, two, three, addition, addition_of, multiplication, multiplication_of, conjunction, conjunction_of, disjunction}
use Rattle.m_terms.specs.Grammar.{disjunction_of, comparison, comparison_of, function_of, link, gathered, Gathered, gather, SpellsPrim, number, word, own, read}
use Rattle.m_terms.specs.Grammar.{brackets, either, only, called, called_two, looped, SpellsFactor, plain, minus, SpellsProduct, SpellsSum, SpellsMembers}
use Rattle.m_terms.specs.Grammar.{SpellsRelation, alone, compared, inside, outside, SpellsNegation, affirmed, negated, SpellsConjunction, SpellsExpr}
use Rattle.m_terms.specs.Grammar.{SpellsInner}
use Rattle.m_lexer.specs.inner.Chains.{open_at, choose}
use Rattle.m_terms.specs.inner.Reading.{is, mark_at, gathered_at, until_at, other_at, choice_at, named_at, called_at, called_two_at, call_at, loop_at}
use Rattle.m_terms.specs.inner.Reading.{other_word_at, word_at, prim_of, prim_at, factor_at, product_at, sum_at, members_at, inside_at, outside_at}
use Rattle.m_terms.specs.inner.Reading.{membership_at, relation_at, negation_at, conjunction_at, expr_at, inner_at}
use Rattle.m_lexer.proofs.ChainSound.{Each, absent, here, bind_each, choose_each, each_from, open_each, Sound, chain_sound}
use Rattle.m_terms.proofs.Sound.{token, mark_each}
use Rattle.m_terms.proofs.Passes.{next, later, over, skip, Passes, shrinks_passing, chain_passes}
use Rattle.m_lexer.proofs.ChainComplete.{Complete, chain_binds, chain_complete}
use Rattle.m_terms.proofs.HeaderLaws.{header_sound, header_passes, header_complete}
use Rattle.m_terms.proofs.MemberLaws.{list_sound, list_passes, list_complete}

-- binding strength of a token after a term: 0 if the term can't continue with it
abbrev pub tightness : Kind → ℕ
tightness (Sign signs.OpenBracket) = 6
tightness (Sign signs.Star) = 5
tightness (Sign signs.Slash) = 5
tightness (Sign signs.Plus) = 4
tightness (Sign signs.Minus) = 4
tightness (Sign signs.Equal) = 3
tightness (Sign signs.NotEqual) = 3
tightness (Sign signs.Less) = 3
tightness (Sign signs.LessEqual) = 3
tightness (Sign signs.Greater) = 3
tightness (Sign signs.GreaterEqual) = 3
tightness (Key keys.Dans) = 3
tightness (Key keys.Non) = 3
tightness (Key keys.Et) = 2
tightness (Key keys.Ou) = 1
tightness _ = 0

abbrev pub tight : List Token → ℕ
tight [] = 0
tight (t ∷ ts) = tightness t.kind

-- the next token binds less than k
abbrev pub Below : ℕ → List Token → Type 0
Below k ts = tight ts < k

-- R { operator R }, once for all levels
module _ (operator : Token → Option Op) (R : Syntax → List Token → List Token → Type 0) where
  pub gathered_sound : (p : List Token → Option (Syntax × List Token)) → Sound R p → Sound (Gathered operator R) (gathered_at operator p)
  unfolding gathered_at
  gathered_sound p sound ts =
      bind_each (sound ts) (λ t d.
      bind_each (chain_sound operator link R p sound _ _ _) (λ os c.
      here (gather d c.chain (ap (gathered t.0) c.all))))

  pub gathered_passes : Passes R → Passes (Gathered operator R)
  gathered_passes passes _ _ _ (gather d c e) = chain_passes operator link R passes (passes _ _ _ d) c

  pub gathered_complete : (p : List Token → Option (Syntax × List Token)) (j : ℕ) → Passes R → Complete (Below (suc j)) R p
      → ((t : Token) (b : Op) (ts : List Token) → operator t ≡ Some b → Below (suc j) (t ∷ ts)) → ((ts : List Token) → Below j ts → open_at operator ts ≡ None)
      → Complete (Below j) (Gathered operator R) (gathered_at operator p)
  unfolding gathered_at
  gathered_complete p j passes complete binds closed _ _ _ (gather {mid = mid} d c e) h =
      rw (
        complete _ _ _ d (chain_binds operator link R (shrinks_passing R passes) p (Below (suc j)) (Below j) complete binds (λ ts h. omega arith) closed c h),
        chain_complete operator link R (shrinks_passing R passes) p (Below (suc j)) (Below j) complete binds (λ ts h. omega arith) closed (length mid) [] c h
            (omega arith),
        e,
      ) refl

-- Which tokens continue a term at each level.
pub multiplies : (k : Kind) (b : Op) → multiplication_of k ≡ Some b → tightness k < 6
multiplies (Sign signs.Star) b e = lit< tt
multiplies (Sign signs.Slash) b e = lit< tt
multiplies _ b e = absurd (cc)

multiplies_not : (k : Kind) → tightness k < 5 → multiplication_of k ≡ None
multiplies_not (Sign signs.Star) h = absurd (omega arith)
multiplies_not (Sign signs.Slash) h = absurd (omega arith)
multiplies_not _ h = refl

pub adds : (k : Kind) (b : Op) → addition_of k ≡ Some b → tightness k < 5
adds (Sign signs.Plus) b e = lit< tt
adds (Sign signs.Minus) b e = lit< tt
adds _ b e = absurd (cc)

adds_not : (k : Kind) → tightness k < 4 → addition_of k ≡ None
adds_not (Sign signs.Plus) h = absurd (omega arith)
adds_not (Sign signs.Minus) h = absurd (omega arith)
adds_not _ h = refl

pub compares : (k : Kind) (b : Op) → comparison_of k ≡ Some b → tightness k < 4
compares (Sign signs.Equal) b e = lit< tt
compares (Sign signs.NotEqual) b e = lit< tt
compares (Sign signs.Less) b e = lit< tt
compares (Sign signs.LessEqual) b e = lit< tt
compares (Sign signs.Greater) b e = lit< tt
compares (Sign signs.GreaterEqual) b e = lit< tt
compares _ b e = absurd (cc)

compares_not : (k : Kind) → tightness k < 3 → comparison_of k ≡ None
compares_not (Sign signs.Equal) h = absurd (omega arith)
compares_not (Sign signs.NotEqual) h = absurd (omega arith)
compares_not (Sign signs.Less) h = absurd (omega arith)
compares_not (Sign signs.LessEqual) h = absurd (omega arith)
compares_not (Sign signs.Greater) h = absurd (omega arith)
compares_not (Sign signs.GreaterEqual) h = absurd (omega arith)
compares_not _ h = refl

pub conjoins : (k : Kind) (b : Op) → conjunction_of k ≡ Some b → tightness k < 3
conjoins (Key keys.Et) b e = lit< tt
conjoins _ b e = absurd (cc)

conjoins_not : (k : Kind) → tightness k < 2 → conjunction_of k ≡ None
conjoins_not (Key keys.Et) h = absurd (omega arith)
conjoins_not _ h = refl

pub disjoins : (k : Kind) (b : Op) → disjunction_of k ≡ Some b → tightness k < 2
disjoins (Key keys.Ou) b e = lit< tt
disjoins _ b e = absurd (cc)

disjoins_not : (k : Kind) → tightness k < 1 → disjunction_of k ≡ None
disjoins_not (Key keys.Ou) h = absurd (omega arith)
disjoins_not _ h = refl

pub multiplication_closed : (ts : List Token) → Below 5 ts → open_at multiplication ts ≡ None
multiplication_closed [] h = refl
multiplication_closed (t ∷ ts) h = rw (multiplies_not t.kind h) refl

pub addition_closed : (ts : List Token) → Below 4 ts → open_at addition ts ≡ None
addition_closed [] h = refl
addition_closed (t ∷ ts) h = rw (adds_not t.kind h) refl

pub comparison_closed : (ts : List Token) → Below 3 ts → open_at comparison ts ≡ None
comparison_closed [] h = refl
comparison_closed (t ∷ ts) h = rw (compares_not t.kind h) refl

pub conjunction_closed : (ts : List Token) → Below 2 ts → open_at conjunction ts ≡ None
conjunction_closed [] h = refl
conjunction_closed (t ∷ ts) h = rw (conjoins_not t.kind h) refl

pub disjunction_closed : (ts : List Token) → Below 1 ts → open_at disjunction ts ≡ None
disjunction_closed [] h = refl
disjunction_closed (t ∷ ts) h = rw (disjoins_not t.kind h) refl

bracket_no : (k : Kind) → tightness k < 6 → kind_is_sign signs.OpenBracket k ≡ None
bracket_no (Sign signs.OpenBracket) h = absurd (omega arith)
bracket_no _ h = refl

dans_no : (k : Kind) → tightness k < 3 → kind_is_key keys.Dans k ≡ None
dans_no (Key keys.Dans) h = absurd (omega arith)
dans_no _ h = refl

non_no : (k : Kind) → tightness k < 3 → kind_is_key keys.Non k ≡ None
non_no (Key keys.Non) h = absurd (omega arith)
non_no _ h = refl

pub bracket_closed : (ts : List Token) → Below 6 ts → mark_at (OfSign signs.OpenBracket) ts ≡ None
bracket_closed [] h = refl
bracket_closed (t ∷ ts) h = rw (bracket_no t.kind h) refl

pub dans_closed : (ts : List Token) → Below 3 ts → mark_at (OfKey keys.Dans) ts ≡ None
dans_closed [] h = refl
dans_closed (t ∷ ts) h = rw (dans_no t.kind h) refl

pub non_closed : (ts : List Token) → Below 3 ts → mark_at (OfKey keys.Non) ts ≡ None
non_closed [] h = refl
non_closed (t ∷ ts) h = rw (non_no t.kind h) refl

-- no function is the word `non`
pub function_no_non : (k : AKey) (f : Op × Bool) → function_of k ≡ Some f → kind_is_key keys.Non (Key k) ≡ None
function_no_non keys.Non f e = absurd (cc)
function_no_non _ f e = refl

-- Soundness: what is read is a spelling.
module _ (E : Syntax → List Token → List Token → Type 0) (e : List Token → Option (Syntax × List Token)) (sound : Sound E e) where
  until_sound : (m : Mark) (ts : List Token) → Each (λ (t : Syntax × List Token). (p : Place) × E t.0 ts (token m p ∷ t.1)) (until_at e m ts)
  unfolding until_at
  until_sound m ts =
      bind_each (sound ts) (λ t d.
      bind_each (mark_each m t.1) (λ r g.
      here (g.0, subst (λ m. E t.0 ts m) g.1 d)))

  other_sound : {a b : Syntax} {p q : Place} {ts us vs : List Token} → E a ts (key keys.Alors q ∷ us) → E b us vs
      → Each (λ (c : Syntax × List Token). SpellsPrim E (three ops.Choose a b c.0) (key keys.Si p ∷ ts) c.1) (other_at e vs)
  unfolding other_at
  other_sound {b = b} {us = us} {vs = vs} d f =
      choose_each (mark_each (OfKey keys.Sinon) vs)
      (bind_each (mark_each (OfKey keys.Finsi) vs) (λ r g. here (only d (subst (λ m. E b us m) g.1 f))))
      (λ o g. each_from (until_sound (OfKey keys.Finsi) o.1) (λ c h. either d (subst (λ m. E b us m) g.1 f) h.1))

  choice_sound : (p : Place) (ts : List Token) → Each (λ (t : Syntax × List Token). SpellsPrim E t.0 (key keys.Si p ∷ ts) t.1) (choice_at e ts)
  unfolding choice_at
  choice_sound p ts =
      bind_each (until_sound (OfKey keys.Alors) ts) (λ a d.
      bind_each (sound a.1) (λ b f.
      bind_each (other_sound d.1 f) (λ c g. here g)))

  loop_sound : (p : Place) (ts : List Token) → Each (λ (t : Syntax × List Token). SpellsPrim E t.0 (key keys.Somme p ∷ ts) t.1) (loop_at e ts)
  unfolding loop_at
  loop_sound p ts =
      bind_each (mark_each (OfSign signs.OpenParen) ts) (λ o g.
      bind_each (header_sound o.1) (λ h d.
      bind_each (mark_each (OfSign signs.Colon) h.1) (λ c f.
      bind_each (until_sound (OfSign signs.CloseParen) c.1) (λ t a.
      here (subst (λ m. SpellsPrim E (loop h.0 t.0) (key keys.Somme p ∷ m) t.1) (sym g.1) (looped (subst (λ m. SpellsHeader h.0 o.1 m) f.1 d) a.1))))))

  call_sound : (k : AKey) (p : Place) (op : Op) (has_two : Bool) → function_of k ≡ Some (op, has_two) → (ts : List Token)
      → Each (λ (t : Syntax × List Token). SpellsPrim E t.0 (key k p ∷ ts) t.1) (call_at e (op, has_two) ts)
  unfolding call_at called_at called_two_at
  call_sound k p op false i ts =
      bind_each (mark_each (OfSign signs.OpenParen) ts) (λ o g.
      bind_each (until_sound (OfSign signs.CloseParen) o.1) (λ a d.
      here (subst (λ m. SpellsPrim E (one op a.0) (key k p ∷ m) a.1) (sym g.1) (called i d.1))))
  call_sound k p op true i ts =
      bind_each (mark_each (OfSign signs.OpenParen) ts) (λ o g.
      bind_each (until_sound (OfSign signs.Comma) o.1) (λ a d.
      bind_each (until_sound (OfSign signs.CloseParen) a.1) (λ b f.
      here (subst (λ m. SpellsPrim E (two op a.0 b.0) (key k p ∷ m) b.1) (sym g.1) (called_two i d.1 f.1)))))

  other_word_sound : (k : AKey) (p : Place) (ts : List Token) → Each (λ (t : Syntax × List Token). SpellsPrim E t.0 (key k p ∷ ts) t.1) (other_word_at e k p ts)
  unfolding other_word_at
  other_word_sound keys.X p ts = here own
  other_word_sound keys.Si p ts = choice_sound p ts
  other_word_sound keys.Somme p ts = loop_sound p ts
  other_word_sound _ p ts = absent

  word_sound : (k : AKey) (p : Place) (ts : List Token) → Each (λ (t : Syntax × List Token). SpellsPrim E t.0 (key k p ∷ ts) t.1) (word_at e k p ts)
  unfolding word_at
  word_sound k p ts = go (function_of k) refl
    where
      go : (f : Option (Op × Bool)) → function_of k ≡ f
          → Each (λ (t : Syntax × List Token). SpellsPrim E t.0 (key k p ∷ ts) t.1) (choose f (other_word_at e k p ts) (λ f. call_at e f ts))
      go None i = other_word_sound k p ts
      go (Some f) i = call_sound k p f.0 f.1 i ts

  prim_of_sound : (k : Kind) (p : Place) (ts : List Token) → Each (λ (t : Syntax × List Token). SpellsPrim E t.0 (at k p ∷ ts) t.1) (prim_of e k p ts)
  unfolding prim_of named_at
  prim_of_sound (Number z n) p ts = here number
  prim_of_sound (Word w) p ts =
      choose_each (mark_each (OfSign signs.OpenBracket) ts) (here word) (λ o g.
      bind_each (until_sound (OfSign signs.CloseBracket) o.1) (λ t d.
      here (subst (λ m. SpellsPrim E (cell w t.0 p) (at (Word w) p ∷ m) t.1) (sym g.1) (read d.1))))
  prim_of_sound (Key k) p ts = word_sound k p ts
  prim_of_sound (Sign signs.OpenParen) p ts = each_from (until_sound (OfSign signs.CloseParen) ts) (λ t d. brackets d.1)
  prim_of_sound _ p ts = absent

  prim_sound : Sound (SpellsPrim E) (prim_at e)
  prim_sound [] = absent
  prim_sound (t ∷ ts) = prim_of_sound t.kind t.place ts

  factor_sound : Sound (SpellsFactor E) (factor_at e)
  unfolding factor_at
  factor_sound ts =
      choose_each (mark_each (OfSign signs.Minus) ts) (each_from (prim_sound ts) (λ t d. plain d)) (λ o g.
      bind_each (prim_sound o.1) (λ t d.
      here (subst (λ m. SpellsFactor E (one ops.Neg t.0) m t.1) (sym g.1) (minus d))))

  sum_sound : Sound (SpellsSum E) (sum_at e)
  sum_sound = gathered_sound addition (SpellsProduct E) (product_at e) (gathered_sound multiplication (SpellsFactor E) (factor_at e) factor_sound)

  members_sound : (ts : List Token) → Each (λ (ms : List Member × List Token). (p : Place) × (us : List Token) × (q : Place)
      × (ts ≡ sign signs.OpenParen p ∷ us) × SpellsMembers ms.0 us (sign signs.CloseParen q ∷ ms.1)) (members_at ts)
  unfolding members_at
  members_sound ts =
      bind_each (mark_each (OfSign signs.OpenParen) ts) (λ o g.
      bind_each (list_sound o.1) (λ ms d.
      bind_each (mark_each (OfSign signs.CloseParen) ms.1) (λ r h.
      here (g.0, o.1, h.0, g.1, subst (λ m. SpellsMembers ms.0 o.1 m) h.1 d))))

  compared_sound : {a : Syntax} {ts mid us : List Token} {op : Op} → SpellsSum E a ts mid → First comparison op mid us → (b : Syntax × List Token)
      → SpellsSum E b.0 us b.1 → SpellsRelation E (two op a b.0) ts b.1
  compared_sound d (first i) b f = compared d i f

  membership_sound : {a : Syntax} {ts : List Token} (mid : List Token) → SpellsSum E a ts mid
      → Each (λ (t : Syntax × List Token). SpellsRelation E t.0 ts t.1) (membership_at a mid)
  unfolding membership_at inside_at outside_at
  membership_sound {a} {ts} mid d =
      choose_each (mark_each (OfKey keys.Dans) mid)
      (choose_each (mark_each (OfKey keys.Non) mid) (here (alone d)) (λ n g.
      bind_each (mark_each (OfKey keys.Dans) n.1) (λ o h.
      bind_each (members_sound o.1) (λ ms f.
      here (outside (subst (λ m. SpellsSum E a ts m) (g.1 ∙ ap (λ m. key keys.Non g.0 ∷ m) (h.1 ∙ ap (λ m. key keys.Dans h.0 ∷ m) f.3)) d) f.4)))))
      (λ o g.
      bind_each (members_sound o.1) (λ ms f.
      here (inside (subst (λ m. SpellsSum E a ts m) (g.1 ∙ ap (λ m. key keys.Dans g.0 ∷ m) f.3) d) f.4)))

  relation_sound : Sound (SpellsRelation E) (relation_at e)
  unfolding relation_at
  relation_sound ts =
      bind_each (sum_sound ts) (λ a d.
      choose_each (open_each comparison a.1) (membership_sound a.1 d) (λ o g.
      bind_each (sum_sound o.1) (λ b f.
      here (compared_sound d g b f))))

  negation_sound : Sound (SpellsNegation E) (negation_at e)
  unfolding negation_at
  negation_sound ts =
      choose_each (mark_each (OfKey keys.Non) ts) (each_from (relation_sound ts) (λ t d. affirmed d)) (λ o g.
      bind_each (relation_sound o.1) (λ t d.
      here (subst (λ m. SpellsNegation E (one ops.Not t.0) m t.1) (sym g.1) (negated d))))

  pub expr_sound : Sound (SpellsExpr E) (expr_at e)
  expr_sound = gathered_sound disjunction (SpellsConjunction E) (conjunction_at e)
      (gathered_sound conjunction (SpellsNegation E) (negation_at e) negation_sound)
