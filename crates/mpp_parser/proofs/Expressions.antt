-- The law of terms: parsing yields exactly the trees that the tokens spell, before a token that
-- doesn't continue the term.
use Rattle.std.proofs.Common.{◌≡◌, ◌<◌, ℕ, zero, suc, List, ◌∷◌, Option, Some, None, refl, sym, subst, lit<, arith}
use Rattle.m_places.specs.declared.limits.TheConstants.{BRACKET_DEPTH}
use Rattle.m_fixed.specs.declared.operator.Op.TheVariants as ops
use Rattle.mpp_lexer.specs.declared.piece.DriverPiece.{DriverPiece}
use Rattle.mpp_lexer.specs.declared.piece.DriverPiece.TheVariants.{Word, Number, Sign}
use Rattle.mpp_lexer.specs.declared.piece.DriverSign.{DriverSign}
use Rattle.mpp_lexer.specs.declared.piece.DriverSign.TheVariants.{OpenParen, CloseParen, Minus}
use Rattle.mpp_parser.specs.declared.keyword.Keyword.{Keyword}
use Rattle.mpp_parser.specs.declared.keyword.Keyword.TheVariants as keys
use Rattle.mpp_parser.specs.Keywords.{keyword_of}
use Rattle.mpp_parser.specs.Trees.{Term, named, exists}
use Rattle.mpp_parser.specs.Grammar.{is, disjunction, conjunction, comparison, addition, multiplication, unary, cast_of, SpellsCell, plain, indexed, SpellsKind}
use Rattle.mpp_parser.specs.Grammar.{SpellsPrim, number, cell, brackets, present, cast, exist, SpellsFactor, bare, minus, SpellsProduct, SpellsSum}
use Rattle.mpp_parser.specs.Grammar.{SpellsRelation, alone, compared, SpellsNegation, affirmed, negated, SpellsConjunction, SpellsDisjunction, SpellsInner}
use Rattle.mpp_parser.specs.Grammar.{SpellsTerm}
use Rattle.mpp_parser.specs.inner.Reading.{sign_at, key_at, bracket_at, cell_rest_at, cell_at, kind_at, until_at, word_prim_at, prim_at, factor_at, product_at}
use Rattle.mpp_parser.specs.inner.Reading.{sum_at, relation_at, negation_at, conjunction_at, disjunction_at, inner_at, term_at}
use Rattle.m_lexer.proofs.ChainSound.{Each, absent, here, bind_each, choose_each, each_from, opened, open_each, Sound}
use Rattle.mpp_parser.proofs.Sound.{sign_each}
use Rattle.m_lexer.proofs.ChainComplete.{Complete, Shrinks}
use Rattle.mpp_parser.proofs.Tightness.{tightness, Below}
use Rattle.mpp_parser.proofs.Levels.{gathered_sound, gathered_shrinks, gathered_complete, gathered_begins, multiplication_binds, multiplication_closed}
use Rattle.mpp_parser.proofs.Levels.{addition_binds, addition_closed, comparison_binds, comparison_closed, bracket_closed, conjunction_binds}
use Rattle.mpp_parser.proofs.Levels.{conjunction_closed, disjunction_binds, disjunction_closed}
use Rattle.mpp_parser.proofs.Cells.{key_each, cell_rest_sound, cell_sound, cell_shrinks, cell_complete, kind_sound, kind_shrinks, EndsKind, kind_complete}
use Rattle.mpp_parser.proofs.Cells.{enclosed_sound, enclosed_complete}

-- Terms.
module _ (E : Term → List DriverPiece → List DriverPiece → Type 0) (e : List DriverPiece → Option (Term × List DriverPiece)) (sound : Sound E e) where
  pub until_sound : (s : DriverSign) (ts : List DriverPiece) → Each (λ (t : Term × List DriverPiece). E t.0 ts (Sign s ∷ t.1)) (until_at e s ts)
  unfolding until_at
  until_sound s ts =
      bind_each (sound ts) (λ t d.
      bind_each (sign_each s t.1) (λ r g.
      here (subst (λ m. E t.0 ts m) g d)))

  word_prim_sound : (w : List ℕ) (k : Option Keyword) (ts : List DriverPiece) → keyword_of w ≡ k
      → Each (λ (t : Term × List DriverPiece). SpellsPrim E t.0 (Word w ∷ ts) t.1) (word_prim_at w k ts)
  unfolding word_prim_at
  word_prim_sound w None ts g = bind_each (cell_rest_sound w ts g) (λ c d. here (cell d))
  word_prim_sound w (Some keys.Present) ts g = bind_each (enclosed_sound SpellsCell cell_at cell_sound ts)
      (λ c h. here (subst (λ us. SpellsPrim E (unary ops.Present (named c.0)) (Word w ∷ us) c.1) (sym h.1) (present g h.2)))
  word_prim_sound w (Some keys.Cast) ts g = bind_each (enclosed_sound SpellsCell cell_at cell_sound ts)
      (λ c h. here (subst (λ us. SpellsPrim E (cast_of c.0) (Word w ∷ us) c.1) (sym h.1) (cast g h.2)))
  word_prim_sound w (Some keys.Exists) ts g = bind_each (enclosed_sound SpellsKind kind_at kind_sound ts)
      (λ k h. here (subst (λ us. SpellsPrim E (exists k.0) (Word w ∷ us) k.1) (sym h.1) (exist g h.2)))
  word_prim_sound w (Some _) ts g = absent

  prim_sound : Sound (SpellsPrim E) (prim_at e)
  unfolding prim_at
  prim_sound (Number z t ∷ ts) = here number
  prim_sound (Word w ∷ ts) = word_prim_sound w (keyword_of w) ts refl
  prim_sound (Sign OpenParen ∷ ts) = each_from (until_sound CloseParen ts) (λ t d. brackets d)
  prim_sound _ = absent

  factor_sound : Sound (SpellsFactor E) (factor_at e)
  unfolding factor_at
  factor_sound ts =
      choose_each (sign_each Minus ts) (each_from (prim_sound ts) (λ t d. bare d)) (λ o g.
      bind_each (prim_sound o.1) (λ t d.
      here (subst (λ m. SpellsFactor E (unary ops.Neg t.0) m t.1) (sym g) (minus d))))

  sum_sound : Sound (SpellsSum E) (sum_at e)
  sum_sound = gathered_sound addition (SpellsProduct E) (product_at e) (gathered_sound multiplication (SpellsFactor E) (factor_at e) factor_sound)

  relation_sound : Sound (SpellsRelation E) (relation_at e)
  unfolding relation_at
  relation_sound ts =
      bind_each (sum_sound ts) (λ a d.
      choose_each (open_each comparison a.1) (here (alone d)) (λ o g.
      bind_each (sum_sound o.1) (λ b f.
      here (let h = opened g in compared (subst (λ m. SpellsSum E a.0 ts m) h.2 d) h.1 f))))

  negation_sound : Sound (SpellsNegation E) (negation_at e)
  unfolding negation_at
  negation_sound ts =
      choose_each (key_each keys.Not ts) (each_from (relation_sound ts) (λ t d. affirmed d)) (λ o g.
      bind_each (relation_sound o.1) (λ t d.
      here (subst (λ m. SpellsNegation E (unary ops.Not t.0) m t.1) (sym g.2) (negated g.1 d))))

  pub disjunction_sound : Sound (SpellsDisjunction E) (disjunction_at e)
  disjunction_sound = gathered_sound disjunction (SpellsConjunction E) (conjunction_at e)
      (gathered_sound conjunction (SpellsNegation E) (negation_at e) negation_sound)

module _ (E : Term → List DriverPiece → List DriverPiece → Type 0) (shrinks : Shrinks E) where
  prim_shrinks : Shrinks (SpellsPrim E)
  prim_shrinks _ _ _ number = omega arith
  prim_shrinks _ _ _ (cell d) = cell_shrinks _ _ _ d
  prim_shrinks _ _ _ (brackets d) = omega (arith, shrinks _ _ _ d)
  prim_shrinks _ _ _ (present g d) = omega (arith, cell_shrinks _ _ _ d)
  prim_shrinks _ _ _ (cast g d) = omega (arith, cell_shrinks _ _ _ d)
  prim_shrinks _ _ _ (exist g d) = omega (arith, kind_shrinks _ _ _ d)

  factor_shrinks : Shrinks (SpellsFactor E)
  factor_shrinks _ _ _ (bare d) = prim_shrinks _ _ _ d
  factor_shrinks _ _ _ (minus d) = omega (arith, prim_shrinks _ _ _ d)

  product_shrinks : Shrinks (SpellsProduct E)
  product_shrinks = gathered_shrinks multiplication (SpellsFactor E) factor_shrinks

  sum_shrinks : Shrinks (SpellsSum E)
  sum_shrinks = gathered_shrinks addition (SpellsProduct E) product_shrinks

  relation_shrinks : Shrinks (SpellsRelation E)
  relation_shrinks _ _ _ (alone d) = sum_shrinks _ _ _ d
  relation_shrinks _ _ _ (compared d g f) = omega (arith, sum_shrinks _ _ _ d, sum_shrinks _ _ _ f)

  negation_shrinks : Shrinks (SpellsNegation E)
  negation_shrinks _ _ _ (affirmed d) = relation_shrinks _ _ _ d
  negation_shrinks _ _ _ (negated g d) = omega (arith, relation_shrinks _ _ _ d)

  conjunction_shrinks : Shrinks (SpellsConjunction E)
  conjunction_shrinks = gathered_shrinks conjunction (SpellsNegation E) negation_shrinks

  pub disjunction_shrinks : Shrinks (SpellsDisjunction E)
  disjunction_shrinks = gathered_shrinks disjunction (SpellsConjunction E) conjunction_shrinks

  -- a relation doesn't begin with `not`
  prim_no_not : {t : Term} {ts rest : List DriverPiece} → SpellsPrim E t ts rest → key_at keys.Not ts ≡ None
  prim_no_not number = refl
  prim_no_not (cell (plain g)) = rw g refl
  prim_no_not (cell (indexed g f)) = rw g refl
  prim_no_not (brackets d) = refl
  prim_no_not (present g d) = rw g refl
  prim_no_not (cast g d) = rw g refl
  prim_no_not (exist g d) = rw g refl

  factor_no_not : {t : Term} {ts rest : List DriverPiece} → SpellsFactor E t ts rest → key_at keys.Not ts ≡ None
  factor_no_not (bare d) = prim_no_not d
  factor_no_not (minus d) = refl

  sum_no_not : {t : Term} {ts rest : List DriverPiece} → SpellsSum E t ts rest → key_at keys.Not ts ≡ None
  sum_no_not d = gathered_begins addition (SpellsProduct E) (λ ts. key_at keys.Not ts ≡ None)
      (λ t ts rest d. gathered_begins multiplication (SpellsFactor E) (λ ts. key_at keys.Not ts ≡ None) (λ t ts rest d. factor_no_not d) d) d

  relation_no_not : {t : Term} {ts rest : List DriverPiece} → SpellsRelation E t ts rest → key_at keys.Not ts ≡ None
  relation_no_not (alone d) = sum_no_not d
  relation_no_not (compared d g f) = sum_no_not d

  module _ (e : List DriverPiece → Option (Term × List DriverPiece)) (complete : Complete (Below 1) E e) where
    pub until_complete : (s : DriverSign) {t : Term} {ts rest : List DriverPiece} → E t ts (Sign s ∷ rest) → tightness (Sign s) < 1 → is s (Sign s) ≡ Some tt
        → until_at e s ts ≡ Some (t, rest)
    unfolding until_at
    until_complete s d h i = rw (complete _ _ _ d h, i) refl

    prim_complete : Complete (Below 6) (SpellsPrim E) (prim_at e)
    unfolding prim_at word_prim_at cell_rest_at bracket_at
    prim_complete _ _ _ number h = refl
    prim_complete _ _ _ (cell (plain g)) h = rw (g, bracket_closed _ h) refl
    prim_complete _ _ _ (cell (indexed g f)) h = rw (g, f) refl
    prim_complete _ _ _ (brackets d) h = until_complete CloseParen d (lit< tt) refl
    prim_complete _ _ _ (present g d) h = rw (g, enclosed_complete SpellsCell cell_at (Below 6) cell_complete d (lit< tt)) refl
    prim_complete _ _ _ (cast g d) h = rw (g, enclosed_complete SpellsCell cell_at (Below 6) cell_complete d (lit< tt)) refl
    prim_complete _ _ _ (exist g d) h = rw (g, enclosed_complete SpellsKind kind_at EndsKind kind_complete d (refl, refl)) refl

    prim_no_minus : {t : Term} {ts rest : List DriverPiece} → SpellsPrim E t ts rest → sign_at Minus ts ≡ None
    prim_no_minus (cell (plain g)) = refl
    prim_no_minus (cell (indexed g f)) = refl
    prim_no_minus number = refl
    prim_no_minus (brackets d) = refl
    prim_no_minus (present g d) = refl
    prim_no_minus (cast g d) = refl
    prim_no_minus (exist g d) = refl

    factor_complete : Complete (Below 6) (SpellsFactor E) (factor_at e)
    unfolding factor_at
    factor_complete _ _ _ (bare d) h = rw (prim_no_minus d) (prim_complete _ _ _ d h)
    factor_complete _ _ _ (minus d) h = rw (prim_complete _ _ _ d h) refl

    product_complete : Complete (Below 5) (SpellsProduct E) (product_at e)
    product_complete = gathered_complete multiplication (SpellsFactor E) (factor_at e) 5 factor_shrinks factor_complete multiplication_binds
        multiplication_closed

    sum_complete : Complete (Below 4) (SpellsSum E) (sum_at e)
    sum_complete = gathered_complete addition (SpellsProduct E) (product_at e) 4 product_shrinks product_complete addition_binds addition_closed

    relation_complete : Complete (Below 3) (SpellsRelation E) (relation_at e)
    unfolding relation_at
    relation_complete _ _ _ (alone d) h = rw (sum_complete _ _ _ d (omega arith), comparison_closed _ h) refl
    relation_complete _ _ _ (compared {o = o} {t = t} {us = us} d g f) h = rw (
      sum_complete _ _ _ d (comparison_binds t o us g),
      g,
      sum_complete _ _ _ f
          (omega arith),
    ) refl

    negation_complete : Complete (Below 3) (SpellsNegation E) (negation_at e)
    unfolding negation_at
    negation_complete _ _ _ (affirmed d) h = rw (relation_no_not d) (relation_complete _ _ _ d h)
    negation_complete _ _ _ (negated g d) h = rw (g, relation_complete _ _ _ d h) refl

    conjunction_complete : Complete (Below 2) (SpellsConjunction E) (conjunction_at e)
    conjunction_complete = gathered_complete conjunction (SpellsNegation E) (negation_at e) 2 negation_shrinks negation_complete conjunction_binds
        conjunction_closed

    pub disjunction_complete : Complete (Below 1) (SpellsDisjunction E) (disjunction_at e)
    disjunction_complete = gathered_complete disjunction (SpellsConjunction E) (conjunction_at e) 1 conjunction_shrinks conjunction_complete disjunction_binds
        disjunction_closed

-- Induction on the nesting of brackets.
pub inner_sound : (d : ℕ) → Sound (SpellsInner d) (inner_at d)
unfolding SpellsInner inner_at
inner_sound zero = λ ts. absent
inner_sound (suc d) = disjunction_sound (SpellsInner d) (inner_at d) (inner_sound d)

pub inner_shrinks : (d : ℕ) → Shrinks (SpellsInner d)
unfolding SpellsInner
inner_shrinks zero = λ x ts rest h. absurd h
inner_shrinks (suc d) = disjunction_shrinks (SpellsInner d) (inner_shrinks d)

pub inner_complete : (d : ℕ) → Complete (Below 1) (SpellsInner d) (inner_at d)
unfolding SpellsInner inner_at
inner_complete zero = λ x ts rest h. absurd h
inner_complete (suc d) = disjunction_complete (SpellsInner d) (inner_shrinks d) (inner_at d) (inner_complete d)

pub term_sound : Sound SpellsTerm term_at
unfolding term_at
term_sound = disjunction_sound (SpellsInner BRACKET_DEPTH) (inner_at BRACKET_DEPTH) (inner_sound BRACKET_DEPTH)

pub term_shrinks : Shrinks SpellsTerm
term_shrinks = disjunction_shrinks (SpellsInner BRACKET_DEPTH) (inner_shrinks BRACKET_DEPTH)

pub term_complete : Complete (Below 1) SpellsTerm term_at
unfolding term_at
term_complete = disjunction_complete (SpellsInner BRACKET_DEPTH) (inner_shrinks BRACKET_DEPTH) (inner_at BRACKET_DEPTH) (inner_complete BRACKET_DEPTH)
