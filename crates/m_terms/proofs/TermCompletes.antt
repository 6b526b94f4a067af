use Rattle.std.proofs.Common.{◌≡◌, ◌<◌, ℕ, zero, suc, Bool, true, false, List, [], ◌∷◌, length, Option, Some, None, refl, sym, ap, ◌∙◌, subst, lit<, arith}
use Rattle.m_places.specs.declared.place.Place.{Place}
use Rattle.m_fixed.specs.declared.operator.Op.{Op}
use Rattle.m_fixed.specs.declared.operator.Op.TheVariants as ops
use Rattle.m_lexer.specs.declared.token.Token.{Token}
use Rattle.m_lexer.specs.declared.token.Kind.{Kind}
use Rattle.m_lexer.specs.declared.token.Kind.TheVariants.{Word, Number, Key, Sign}
use Rattle.m_lexer.specs.declared.token.Key.{Key as AKey}
use Rattle.m_lexer.specs.declared.token.Key.TheVariants as keys
use Rattle.m_lexer.specs.declared.token.Sign.TheVariants as signs
use Rattle.m_ast.specs.declared.term.Member.{Member}
use Rattle.m_ast.specs.Syntax.{Syntax, cell, loop}
use Rattle.m_terms.specs.declared.cursor.Mark.{Mark}
use Rattle.m_terms.specs.declared.cursor.Mark.TheVariants.{OfKey, OfSign}
use Rattle.m_lexer.specs.Chains.{First, first}
use Rattle.m_terms.specs.Tokens.{at, sign, key, kind_is_sign, kind_is_key}
use Rattle.m_terms.specs.Headers.{SpellsHeader}
use Rattle.m_terms.specs.Grammar.{one, two, three, addition, addition_of, multiplication, multiplication_of, conjunction, conjunction_of, disjunction}
use Rattle.m_terms.specs.Grammar.{disjunction_of, comparison, comparison_of, function_of, link, gathered, Gathered, gather, SpellsPrim, number, word, own, read}
use Rattle.m_terms.specs.Grammar.{brackets, either, only, called, called_two, looped, SpellsFactor, plain, minus, SpellsProduct, SpellsSum, SpellsMembers}
use Rattle.m_terms.specs.Grammar.{SpellsRelation, alone, compared, inside, outside, SpellsNegation, affirmed, negated, SpellsConjunction, SpellsExpr}
use Rattle.m_terms.specs.Grammar.{SpellsInner}
use Rattle.m_lexer.specs.inner.Chains.{open_at, choose}
use Rattle.m_terms.specs.inner.Reading.{is, mark_at, gathered_at, until_at, other_at, choice_at, named_at, called_at, called_two_at, call_at, loop_at}
use Rattle.m_terms.specs.inner.Reading.{other_word_at, word_at, prim_of, prim_at, factor_at, product_at, sum_at, members_at, inside_at, outside_at}
use Rattle.m_terms.specs.inner.Reading.{membership_at, relation_at, negation_at, conjunction_at, expr_at, inner_at}
use Rattle.m_lexer.proofs.ChainSound.{Each, absent, here, bind_each, choose_each, each_from, open_each, Sound, chain_sound}
use Rattle.m_terms.proofs.Sound.{token, mark_each}
use Rattle.m_terms.proofs.Passes.{next, later, over, skip, Passes, shrinks_passing, chain_passes}
use Rattle.m_lexer.proofs.ChainComplete.{Complete, chain_binds, chain_complete}
use Rattle.m_terms.proofs.HeaderLaws.{header_sound, header_passes, header_complete}
use Rattle.m_terms.proofs.MemberLaws.{list_sound, list_passes, list_complete}
use Rattle.m_terms.proofs.TermLaws.{Below, gathered_passes, gathered_complete, multiplies, adds, compares, conjoins, disjoins, multiplication_closed}
use Rattle.m_terms.proofs.TermLaws.{addition_closed, comparison_closed, conjunction_closed, disjunction_closed, bracket_closed, dans_closed, non_closed}
use Rattle.m_terms.proofs.TermLaws.{function_no_non, expr_sound}

-- A spelling takes at least one token.
module _ (E : Syntax → List Token → List Token → Type 0) (passes : Passes E) where
  prim_passes : Passes (SpellsPrim E)
  prim_passes _ _ _ number = next
  prim_passes _ _ _ word = next
  prim_passes _ _ _ own = next
  prim_passes _ _ _ (read d) = later (later (skip (passes _ _ _ d)))
  prim_passes _ _ _ (brackets d) = later (skip (passes _ _ _ d))
  prim_passes _ _ _ (either a b c) = later (over (skip (passes _ _ _ a)) (over (skip (passes _ _ _ b)) (skip (passes _ _ _ c))))
  prim_passes _ _ _ (only a b) = later (over (skip (passes _ _ _ a)) (skip (passes _ _ _ b)))
  prim_passes _ _ _ (called i d) = later (later (skip (passes _ _ _ d)))
  prim_passes _ _ _ (called_two i a b) = later (later (over (skip (passes _ _ _ a)) (skip (passes _ _ _ b))))
  prim_passes _ _ _ (looped h d) = later (later (over (skip (header_passes _ _ _ h)) (skip (passes _ _ _ d))))

  factor_passes : Passes (SpellsFactor E)
  factor_passes _ _ _ (plain d) = prim_passes _ _ _ d
  factor_passes _ _ _ (minus d) = later (prim_passes _ _ _ d)

  product_passes : Passes (SpellsProduct E)
  product_passes = gathered_passes multiplication (SpellsFactor E) factor_passes

  sum_passes : Passes (SpellsSum E)
  sum_passes = gathered_passes addition (SpellsProduct E) product_passes

  relation_passes : Passes (SpellsRelation E)
  relation_passes _ _ _ (alone d) = sum_passes _ _ _ d
  relation_passes _ _ _ (compared d i f) = over (skip (sum_passes _ _ _ d)) (sum_passes _ _ _ f)
  relation_passes _ _ _ (inside d m) = over (skip (skip (sum_passes _ _ _ d))) (skip (list_passes _ _ _ m))
  relation_passes _ _ _ (outside d m) = over (skip (skip (skip (sum_passes _ _ _ d)))) (skip (list_passes _ _ _ m))

  negation_passes : Passes (SpellsNegation E)
  negation_passes _ _ _ (affirmed d) = relation_passes _ _ _ d
  negation_passes _ _ _ (negated d) = later (relation_passes _ _ _ d)

  conjunction_passes : Passes (SpellsConjunction E)
  conjunction_passes = gathered_passes conjunction (SpellsNegation E) negation_passes

  pub expr_passes : Passes (SpellsExpr E)
  expr_passes = gathered_passes disjunction (SpellsConjunction E) conjunction_passes

  -- Completeness: every spelling is read.
  module _ (e : List Token → Option (Syntax × List Token)) (complete : Complete (Below 1) E e) where
    until_complete : (m : Mark) (p : Place) {t : Syntax} {ts rest : List Token} → E t ts (token m p ∷ rest) → Below 1 (token m p ∷ rest)
        → is m (token m p) ≡ Some tt → until_at e m ts ≡ Some (t, rest)
    unfolding until_at
    until_complete m p d h i = rw (complete _ _ _ d h, i) refl

    prim_complete : Complete (Below 6) (SpellsPrim E) (prim_at e)
    unfolding prim_of named_at word_at other_word_at choice_at other_at call_at called_at called_two_at loop_at
    prim_complete _ _ _ number h = refl
    prim_complete _ _ _ word h = rw (bracket_closed _ h) refl
    prim_complete _ _ _ own h = refl
    prim_complete _ _ _ (read d) h = rw (until_complete (OfSign signs.CloseBracket) _ d (lit< tt) refl) refl
    prim_complete _ _ _ (brackets d) h = until_complete (OfSign signs.CloseParen) _ d (lit< tt) refl
    prim_complete _ _ _ (either a b c) h = rw (
      until_complete (OfKey keys.Alors) _ a (lit< tt) refl,
      complete _ _ _ b (lit< tt),
      until_complete
          (OfKey keys.Finsi) _ c (lit< tt) refl,
    ) refl
    prim_complete _ _ _ (only a b) h = rw (until_complete (OfKey keys.Alors) _ a (lit< tt) refl, complete _ _ _ b (lit< tt)) refl
    prim_complete _ _ _ (called i d) h = rw (i, until_complete (OfSign signs.CloseParen) _ d (lit< tt) refl) refl
    prim_complete _ _ _ (called_two i a b) h = rw (
      i,
      until_complete (OfSign signs.Comma) _ a (lit< tt) refl,
      until_complete (OfSign signs.CloseParen) _ b
          (lit< tt) refl,
    ) refl
    prim_complete _ _ _ (looped g d) h = rw (header_complete _ _ _ g (lit< tt), until_complete (OfSign signs.CloseParen) _ d (lit< tt) refl) refl

    prim_no_minus : {t : Syntax} {ts rest : List Token} → SpellsPrim E t ts rest → mark_at (OfSign signs.Minus) ts ≡ None
    prim_no_minus number = refl
    prim_no_minus _ = refl

    factor_complete : Complete (Below 6) (SpellsFactor E) (factor_at e)
    unfolding factor_at
    factor_complete _ _ _ (plain d) h = rw (prim_no_minus d) (prim_complete _ _ _ d h)
    factor_complete _ _ _ (minus d) h = rw (prim_complete _ _ _ d h) refl

    product_complete : Complete (Below 5) (SpellsProduct E) (product_at e)
    product_complete = gathered_complete multiplication (SpellsFactor E) (factor_at e) 5 factor_passes factor_complete (λ t b ts i. multiplies t.kind b i)
        multiplication_closed

    sum_complete : Complete (Below 4) (SpellsSum E) (sum_at e)
    sum_complete = gathered_complete addition (SpellsProduct E) (product_at e) 4 product_passes product_complete (λ t b ts i. adds t.kind b i) addition_closed

    relation_complete : Complete (Below 3) (SpellsRelation E) (relation_at e)
    unfolding relation_at membership_at inside_at outside_at members_at
    relation_complete _ _ _ (alone d) h = rw (sum_complete _ _ _ d (omega arith), comparison_closed _ h, dans_closed _ h, non_closed _ h) refl
    relation_complete _ _ _ (compared {t = t} d i f) h = rw (sum_complete _ _ _ d (compares t.kind _ i), i, sum_complete _ _ _ f (omega arith)) refl
    relation_complete _ _ _ (inside d m) h = rw (sum_complete _ _ _ d (lit< tt), list_complete _ _ _ m (lit< tt)) refl
    relation_complete _ _ _ (outside d m) h = rw (sum_complete _ _ _ d (lit< tt), list_complete _ _ _ m (lit< tt)) refl

    prim_no_non : {t : Syntax} {ts rest : List Token} → SpellsPrim E t ts rest → mark_at (OfKey keys.Non) ts ≡ None
    prim_no_non (called {k = k} i d) = rw (function_no_non k _ i) refl
    prim_no_non (called_two {k = k} i a b) = rw (function_no_non k _ i) refl
    prim_no_non _ = refl

    factor_no_non : {t : Syntax} {ts rest : List Token} → SpellsFactor E t ts rest → mark_at (OfKey keys.Non) ts ≡ None
    factor_no_non (plain d) = prim_no_non d
    factor_no_non (minus d) = refl

    sum_no_non : {t : Syntax} {ts rest : List Token} → SpellsSum E t ts rest → mark_at (OfKey keys.Non) ts ≡ None
    sum_no_non (gather (gather d c e) f g) = factor_no_non d

    relation_no_non : {t : Syntax} {ts rest : List Token} → SpellsRelation E t ts rest → mark_at (OfKey keys.Non) ts ≡ None
    relation_no_non (alone d) = sum_no_non d
    relation_no_non (compared d i f) = sum_no_non d
    relation_no_non (inside d m) = sum_no_non d
    relation_no_non (outside d m) = sum_no_non d

    negation_complete : Complete (Below 3) (SpellsNegation E) (negation_at e)
    unfolding negation_at
    negation_complete _ _ _ (affirmed d) h = rw (relation_no_non d) (relation_complete _ _ _ d h)
    negation_complete _ _ _ (negated d) h = rw (relation_complete _ _ _ d h) refl

    conjunction_complete : Complete (Below 2) (SpellsConjunction E) (conjunction_at e)
    conjunction_complete = gathered_complete conjunction (SpellsNegation E) (negation_at e) 2 negation_passes negation_complete
        (λ t b ts i. conjoins t.kind b i) conjunction_closed

    pub expr_complete : Complete (Below 1) (SpellsExpr E) (expr_at e)
    expr_complete = gathered_complete disjunction (SpellsConjunction E) (conjunction_at e) 1 conjunction_passes conjunction_complete
        (λ t b ts i. disjoins t.kind b i) disjunction_closed

-- The recursion, by induction on how many levels may be opened.
pub inner_sound : (d : ℕ) → Sound (SpellsInner d) (inner_at d)
unfolding SpellsInner inner_at
inner_sound zero = λ ts. absent
inner_sound (suc d) = expr_sound (SpellsInner d) (inner_at d) (inner_sound d)

pub inner_passes : (d : ℕ) → Passes (SpellsInner d)
unfolding SpellsInner
inner_passes zero = λ x ts rest h. absurd h
inner_passes (suc d) = expr_passes (SpellsInner d) (inner_passes d)

pub inner_complete : (d : ℕ) → Complete (Below 1) (SpellsInner d) (inner_at d)
unfolding SpellsInner inner_at
inner_complete zero = λ x ts rest h. absurd h
inner_complete (suc d) = expr_complete (SpellsInner d) (inner_passes d) (inner_at d) (inner_complete d)
