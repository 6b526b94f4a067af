-- The levels of operators, and which tokens continue a term.
use Rattle.std.proofs.Common.{◌≡◌, ◌<◌, ℕ, suc, List, [], ◌∷◌, length, Option, Some, None, option_map, refl, ap, lit<, arith}
use Rattle.m_fixed.specs.declared.operator.Op.{Op}
use Rattle.m_fixed.specs.declared.operator.Op.TheVariants as ops
use Rattle.mpp_lexer.specs.declared.piece.DriverPiece.{DriverPiece}
use Rattle.mpp_lexer.specs.declared.piece.DriverPiece.TheVariants.{Word, Sign}
use Rattle.mpp_lexer.specs.declared.piece.DriverSign.TheVariants.{OpenBracket, Equal, NotEqual, Less, LessEqual, Greater, GreaterEqual, Plus, Minus, Star}
use Rattle.mpp_lexer.specs.declared.piece.DriverSign.TheVariants.{Slash}
use Rattle.mpp_parser.specs.declared.keyword.Keyword.{Keyword}
use Rattle.mpp_parser.specs.declared.keyword.Keyword.TheVariants as keys
use Rattle.mpp_parser.specs.Keywords.{keyword_of}
use Rattle.mpp_parser.specs.Trees.{Term}
use Rattle.mpp_parser.specs.Grammar.{found, disjunction, conjunction, comparison, addition, multiplication, link, gathered, Gathered, gather}
use Rattle.m_lexer.specs.inner.Chains.{open_at}
use Rattle.mpp_parser.specs.inner.Reading.{sign_at, gathered_at}
use Rattle.m_lexer.proofs.ChainSound.{here, bind_each, Sound, chain_sound}
use Rattle.m_lexer.proofs.ChainComplete.{Complete, Shrinks, chain_shrinks, chain_binds, chain_complete}
use Rattle.mpp_parser.proofs.Tightness.{key_tightness, Below}

-- R { operator R }, once for each level
module _ (operator : DriverPiece → Option Op) (R : Term → List DriverPiece → List DriverPiece → Type 0) where
  pub gathered_sound : (p : List DriverPiece → Option (Term × List DriverPiece)) → Sound R p → Sound (Gathered operator R) (gathered_at operator p)
  unfolding gathered_at
  gathered_sound p sound ts =
      bind_each (sound ts) (λ t d.
      bind_each (chain_sound operator link R p sound _ _ _) (λ ls c.
      here (gather d c.chain (ap (gathered t.0) c.all))))

  pub gathered_shrinks : Shrinks R → Shrinks (Gathered operator R)
  gathered_shrinks shrinks _ _ _ (gather d c e) = omega (arith, shrinks _ _ _ d, chain_shrinks operator link R shrinks c)

  pub gathered_complete : (p : List DriverPiece → Option (Term × List DriverPiece)) (j : ℕ) → Shrinks R → Complete (Below (suc j)) R p
      → ((t : DriverPiece) (o : Op) (ts : List DriverPiece) → operator t ≡ Some o → Below (suc j) (t ∷ ts))
      → ((ts : List DriverPiece) → Below j ts → open_at operator ts ≡ None) → Complete (Below j) (Gathered operator R) (gathered_at operator p)
  unfolding gathered_at
  gathered_complete p j shrinks complete binds closed _ _ _ (gather {mid = mid} d c e) h =
      rw (
        complete _ _ _ d (chain_binds operator link R shrinks p (Below (suc j)) (Below j) complete binds (λ ts h. omega arith) closed c h),
        chain_complete
            operator link R shrinks p (Below (suc j)) (Below j) complete binds (λ ts h. omega arith) closed (length mid) [] c h (omega arith),
        e,
      ) refl

  -- a property of the first tokens of operands is one of chains
  pub gathered_begins : (P : List DriverPiece → Type 0) → ((t : Term) (ts rest : List DriverPiece) → R t ts rest → P ts)
      → {t : Term} {ts rest : List DriverPiece} → Gathered operator R t ts rest → P ts
  gathered_begins P begins (gather d c e) = begins _ _ _ d

-- Which tokens continue a term.
pub multiplication_binds : (t : DriverPiece) (o : Op) (ts : List DriverPiece) → multiplication t ≡ Some o → Below 6 (t ∷ ts)
multiplication_binds (Sign Star) o ts e = lit< tt
multiplication_binds (Sign Slash) o ts e = lit< tt
multiplication_binds _ o ts e = absurd (cc)

pub multiplication_closed : (ts : List DriverPiece) → Below 5 ts → open_at multiplication ts ≡ None
multiplication_closed (Sign Star ∷ ts) h = absurd (omega arith)
multiplication_closed (Sign Slash ∷ ts) h = absurd (omega arith)
multiplication_closed _ h = refl

pub addition_binds : (t : DriverPiece) (o : Op) (ts : List DriverPiece) → addition t ≡ Some o → Below 5 (t ∷ ts)
addition_binds (Sign Plus) o ts e = lit< tt
addition_binds (Sign Minus) o ts e = lit< tt
addition_binds _ o ts e = absurd (cc)

pub addition_closed : (ts : List DriverPiece) → Below 4 ts → open_at addition ts ≡ None
addition_closed (Sign Plus ∷ ts) h = absurd (omega arith)
addition_closed (Sign Minus ∷ ts) h = absurd (omega arith)
addition_closed _ h = refl

pub comparison_binds : (t : DriverPiece) (o : Op) (ts : List DriverPiece) → comparison t ≡ Some o → Below 4 (t ∷ ts)
comparison_binds (Sign Equal) o ts e = lit< tt
comparison_binds (Sign NotEqual) o ts e = lit< tt
comparison_binds (Sign Less) o ts e = lit< tt
comparison_binds (Sign LessEqual) o ts e = lit< tt
comparison_binds (Sign Greater) o ts e = lit< tt
comparison_binds (Sign GreaterEqual) o ts e = lit< tt
comparison_binds _ o ts e = absurd (cc)

pub comparison_closed : (ts : List DriverPiece) → Below 3 ts → open_at comparison ts ≡ None
comparison_closed (Sign Equal ∷ ts) h = absurd (omega arith)
comparison_closed (Sign NotEqual ∷ ts) h = absurd (omega arith)
comparison_closed (Sign Less ∷ ts) h = absurd (omega arith)
comparison_closed (Sign LessEqual ∷ ts) h = absurd (omega arith)
comparison_closed (Sign Greater ∷ ts) h = absurd (omega arith)
comparison_closed (Sign GreaterEqual ∷ ts) h = absurd (omega arith)
comparison_closed _ h = refl

pub bracket_closed : (ts : List DriverPiece) → Below 6 ts → sign_at OpenBracket ts ≡ None
bracket_closed (Sign OpenBracket ∷ ts) h = absurd (omega arith)
bracket_closed _ h = refl

pub and_binds : (k : Option Keyword) (o : Op) → option_map (λ _. ops.And) (found keys.And k) ≡ Some o → key_tightness k < 3
and_binds (Some keys.And) o e = lit< tt
and_binds (Some keys.Or) o e = lit< tt
and_binds _ o e = lit< tt

pub conjunction_binds : (t : DriverPiece) (o : Op) (ts : List DriverPiece) → conjunction t ≡ Some o → Below 3 (t ∷ ts)
conjunction_binds (Word w) o ts e = and_binds (keyword_of w) o e
conjunction_binds _ o ts e = absurd (cc)

pub and_closed : (k : Option Keyword) → key_tightness k < 2 → found keys.And k ≡ None
and_closed None h = refl
and_closed (Some keys.And) h = absurd (omega arith)
and_closed (Some _) h = refl

pub conjunction_closed : (ts : List DriverPiece) → Below 2 ts → open_at conjunction ts ≡ None
conjunction_closed (Word w ∷ ts) h = rw (and_closed (keyword_of w) h) refl
conjunction_closed _ h = refl

pub or_binds : (k : Option Keyword) (o : Op) → option_map (λ _. ops.Or) (found keys.Or k) ≡ Some o → key_tightness k < 2
or_binds None o e = lit< tt
or_binds (Some keys.And) o e = absurd (cc)
or_binds (Some _) o e = lit< tt

pub disjunction_binds : (t : DriverPiece) (o : Op) (ts : List DriverPiece) → disjunction t ≡ Some o → Below 2 (t ∷ ts)
disjunction_binds (Word w) o ts e = or_binds (keyword_of w) o e
disjunction_binds _ o ts e = absurd (cc)

pub or_closed : (k : Option Keyword) → key_tightness k < 1 → found keys.Or k ≡ None
or_closed None h = refl
or_closed (Some keys.Or) h = absurd (omega arith)
or_closed (Some _) h = refl

pub disjunction_closed : (ts : List DriverPiece) → Below 1 ts → open_at disjunction ts ≡ None
disjunction_closed (Word w ∷ ts) h = rw (or_closed (keyword_of w) h) refl
disjunction_closed _ h = refl
