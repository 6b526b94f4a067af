-- The grammar of terms and lines, as relations between trees and tokens.
--
-- In each relation the last two arguments are lists of tokens. `SpellsSum E t ts rest`: the tokens
-- ts begin with a spelling of the sum t, and rest are the tokens after it. E is the grammar of
-- terms in brackets. The limits of nesting are part of the grammar.
use Rattle.std.specs.Prelude.{◌≡◌, ℕ, zero, suc, ℤ, pos, cond, List, [], ◌∷◌, Option, Some, None, option_map, codes}
use Rattle.std.specs.Option.{option_and_then}
use denote.Enum.Bare.{sameb}
use Rattle.m_places.specs.declared.limits.TheConstants.{BRACKET_DEPTH}
use Rattle.m_fixed.specs.declared.amount.Value.TheVariants.{Num}
use Rattle.m_fixed.specs.declared.operator.Op.{Op}
use Rattle.m_fixed.specs.declared.operator.Op.TheVariants as ops
use Rattle.m_text.specs.Numbers.{whole_number}
use Rattle.m_lexer.specs.Chains.{Chain}
use Rattle.mpp_lexer.specs.declared.piece.DriverPiece.{DriverPiece}
use Rattle.mpp_lexer.specs.declared.piece.DriverPiece.TheVariants.{Word, Number, Sign}
use Rattle.mpp_lexer.specs.declared.piece.DriverSign.{DriverSign}
use Rattle.mpp_lexer.specs.declared.piece.DriverSign.TheVariants.{OpenParen, CloseParen, OpenBracket, CloseBracket, Comma, Colon, Assign, Equal, NotEqual, Less}
use Rattle.mpp_lexer.specs.declared.piece.DriverSign.TheVariants.{LessEqual, Greater, GreaterEqual, Plus, Minus, Star, Slash, Receive}
use Rattle.mpp_lexer.specs.contracts.piece.DriverSign as signs
use Rattle.mpp_parser.specs.contracts.keyword.Keyword as keywords
use Rattle.mpp_parser.specs.declared.keyword.Keyword.{Keyword}
use Rattle.mpp_parser.specs.declared.keyword.Keyword.TheVariants as keys
use Rattle.mpp_parser.specs.declared.term.CellName.{CellName}
use Rattle.mpp_parser.specs.declared.term.DLink.{DLink}
use Rattle.mpp_parser.specs.declared.term.Kind.{Kind}
use Rattle.mpp_parser.specs.declared.term.Kind.TheVariants.{Attribute}
use Rattle.mpp_parser.specs.declared.sentence.Sentence.{Sentence}
use Rattle.mpp_parser.specs.declared.sentence.Sentence.TheVariants as sentences
use Rattle.mpp_parser.specs.Keywords.{keyword_of}
use Rattle.mpp_parser.specs.Trees.{Term, lit, named, apply, chain, exists, no_terms, a_term, no_links, a_link}
use Rattle.mpp_parser.specs.TermView.{links_of}

-- this sign
abbrev pub is : DriverSign → DriverPiece → Option (Unit {0})
is s (Sign t) = cond (sameb signs.the_type t s) (Some tt) None
is s _ = None

abbrev pub found : Keyword → Option Keyword → Option (Unit {0})
found k word = option_and_then (λ j. cond (sameb keywords.the_type j k) (Some tt) None) word

-- this reserved word
abbrev pub key : Keyword → DriverPiece → Option (Unit {0})
key k (Word w) = found k (keyword_of w)
key k _ = None

-- The operators of a term, from the loosest to the tightest: `or`, `and`, comparisons, sums, products.
abbrev pub keyed : Keyword → Op → DriverPiece → Option Op
keyed k op t = option_map (λ _. op) (key k t)

abbrev pub disjunction : DriverPiece → Option Op
disjunction = keyed keys.Or ops.Or

abbrev pub conjunction : DriverPiece → Option Op
conjunction = keyed keys.And ops.And

abbrev pub comparison : DriverPiece → Option Op
comparison (Sign Equal) = Some ops.Eq
comparison (Sign NotEqual) = Some ops.Ne
comparison (Sign Less) = Some ops.Lt
comparison (Sign LessEqual) = Some ops.Le
comparison (Sign Greater) = Some ops.Gt
comparison (Sign GreaterEqual) = Some ops.Ge
comparison _ = None

abbrev pub addition : DriverPiece → Option Op
addition (Sign Plus) = Some ops.Add
addition (Sign Minus) = Some ops.Sub
addition _ = None

abbrev pub multiplication : DriverPiece → Option Op
multiplication (Sign Star) = Some ops.Mul
multiplication (Sign Slash) = Some ops.Div
multiplication _ = None

abbrev pub link : Op → Term → DLink
link op t = record { op = op; term = t }

-- one operand is itself, and several are a left-associative chain
abbrev pub gathered : Term → List DLink → Term
gathered t [] = t
gathered t (l ∷ ls) = chain t (links_of (l ∷ ls))

-- R { operator R }
pub data Gathered (operator : DriverPiece → Option Op) (R : Term → List DriverPiece → List DriverPiece → Type 0) : Term → List DriverPiece → List DriverPiece
    → Type 0 where
  gather : {s t : Term} {ls : List DLink} {ts mid rest : List DriverPiece}
      → R t ts mid → Chain operator link R ls mid rest → s ≡ gathered t ls →
      Gathered operator R s ts rest

abbrev pub unary : Op → Term → Term
unary op a = apply op (a_term a no_terms)

abbrev pub binary : Op → Term → Term → Term
binary op a b = apply op (a_term a (a_term b no_terms))

-- R { "," R }
pub data Listed {A : Type 0} (R : A → List DriverPiece → List DriverPiece → Type 0) : List A → List DriverPiece → List DriverPiece → Type 0 where
  listed : {x : A} {xs : List A} {ts mid rest : List DriverPiece}
      → R x ts mid → Chain (is Comma) (λ _ y. y) R xs mid rest →
      Listed R (x ∷ xs) ts rest

-- Cells and kinds.

-- cell := WORD [ "[" WHOLE "]" ], where WORD isn't reserved
pub data SpellsCell : CellName → List DriverPiece → List DriverPiece → Type 0 where
  plain : {w : List ℕ} {rest : List DriverPiece} → keyword_of w ≡ None → SpellsCell (record { name = w; index = None }) (Word w ∷ rest) rest
  indexed : {w t : List ℕ} {z : ℤ} {n : ℕ} {rest : List DriverPiece}
      → keyword_of w ≡ None → whole_number t ≡ Some n →
      SpellsCell (record { name = w; index = Some n }) (Word w ∷ Sign OpenBracket ∷ Number z t ∷ Sign CloseBracket ∷ rest) rest

-- NUMBER
pub data SpellsNumber : ℤ → List DriverPiece → List DriverPiece → Type 0 where
  a_number : {z : ℤ} {t : List ℕ} {rest : List DriverPiece} → SpellsNumber z (Number z t ∷ rest) rest

-- the inputs that give a benefit: `avfisc = 1, 2`
abbrev pub tax_benefit : Kind
tax_benefit = Attribute (codes "avfisc") (pos 1000000 ∷ pos 2000000 ∷ [])

-- kind := "taxbenefit" | WORD "=" NUMBER { "," NUMBER }
pub data SpellsKind : Kind → List DriverPiece → List DriverPiece → Type 0 where
  benefit : {rest : List DriverPiece} → SpellsKind tax_benefit (Word (codes "taxbenefit") ∷ rest) rest
  attribute : {w : List ℕ} {zs : List ℤ} {ts rest : List DriverPiece}
      → keyword_of w ≡ None → Listed SpellsNumber zs ts rest →
      SpellsKind (Attribute w zs) (Word w ∷ Sign Assign ∷ ts) rest

-- Terms.

-- a cell's value, and 0 if it is undefined: `v + 0`
abbrev pub cast_of : CellName → Term
cast_of c = chain (named c) (a_link ops.Add (lit (Num (pos 0))) no_links)

-- prim := NUMBER | cell | "(" term ")" | "present" "(" cell ")" | "cast" "(" cell ")" | "exists" "(" kind ")"
-- `cast(v)` has the tree of `v + 0`.
pub data SpellsPrim (E : Term → List DriverPiece → List DriverPiece → Type 0) : Term → List DriverPiece → List DriverPiece → Type 0 where
  number : {z : ℤ} {t : List ℕ} {rest : List DriverPiece} → SpellsPrim E (lit (Num z)) (Number z t ∷ rest) rest
  cell : {c : CellName} {ts rest : List DriverPiece} → SpellsCell c ts rest → SpellsPrim E (named c) ts rest
  brackets : {t : Term} {ts rest : List DriverPiece} → E t ts (Sign CloseParen ∷ rest) → SpellsPrim E t (Sign OpenParen ∷ ts) rest
  present : {w : List ℕ} {c : CellName} {ts rest : List DriverPiece}
      → keyword_of w ≡ Some keys.Present → SpellsCell c ts (Sign CloseParen ∷ rest) →
      SpellsPrim E (unary ops.Present (named c)) (Word w ∷ Sign OpenParen ∷ ts) rest
  cast : {w : List ℕ} {c : CellName} {ts rest : List DriverPiece}
      → keyword_of w ≡ Some keys.Cast → SpellsCell c ts (Sign CloseParen ∷ rest) →
      SpellsPrim E (cast_of c) (Word w ∷ Sign OpenParen ∷ ts) rest
  exist : {w : List ℕ} {k : Kind} {ts rest : List DriverPiece}
      → keyword_of w ≡ Some keys.Exists → SpellsKind k ts (Sign CloseParen ∷ rest) →
      SpellsPrim E (exists k) (Word w ∷ Sign OpenParen ∷ ts) rest

-- factor := [ "-" ] prim
pub data SpellsFactor (E : Term → List DriverPiece → List DriverPiece → Type 0) : Term → List DriverPiece → List DriverPiece → Type 0 where
  bare : {t : Term} {ts rest : List DriverPiece} → SpellsPrim E t ts rest → SpellsFactor E t ts rest
  minus : {t : Term} {ts rest : List DriverPiece} → SpellsPrim E t ts rest → SpellsFactor E (unary ops.Neg t) (Sign Minus ∷ ts) rest

-- product := factor { ( "*" | "/" ) factor }
abbrev pub SpellsProduct : (Term → List DriverPiece → List DriverPiece → Type 0) → Term → List DriverPiece → List DriverPiece → Type 0
SpellsProduct E = Gathered multiplication (SpellsFactor E)

-- sum := product { ( "+" | "-" ) product }
abbrev pub SpellsSum : (Term → List DriverPiece → List DriverPiece → Type 0) → Term → List DriverPiece → List DriverPiece → Type 0
SpellsSum E = Gathered addition (SpellsProduct E)

-- relation := sum [ ( "==" | "!=" | "<" | "<=" | ">" | ">=" ) sum ]
pub data SpellsRelation (E : Term → List DriverPiece → List DriverPiece → Type 0) : Term → List DriverPiece → List DriverPiece → Type 0 where
  alone : {t : Term} {ts rest : List DriverPiece} → SpellsSum E t ts rest → SpellsRelation E t ts rest
  compared : {o : Op} {a b : Term} {t : DriverPiece} {ts us rest : List DriverPiece}
      → SpellsSum E a ts (t ∷ us) → comparison t ≡ Some o → SpellsSum E b us rest →
      SpellsRelation E (binary o a b) ts rest

-- negation := [ "not" ] relation: `not A == B` is `not (A == B)`
pub data SpellsNegation (E : Term → List DriverPiece → List DriverPiece → Type 0) : Term → List DriverPiece → List DriverPiece → Type 0 where
  affirmed : {t : Term} {ts rest : List DriverPiece} → SpellsRelation E t ts rest → SpellsNegation E t ts rest
  negated : {w : List ℕ} {t : Term} {ts rest : List DriverPiece}
      → keyword_of w ≡ Some keys.Not → SpellsRelation E t ts rest →
      SpellsNegation E (unary ops.Not t) (Word w ∷ ts) rest

-- conjunction := negation { "and" negation }
abbrev pub SpellsConjunction : (Term → List DriverPiece → List DriverPiece → Type 0) → Term → List DriverPiece → List DriverPiece → Type 0
SpellsConjunction E = Gathered conjunction (SpellsNegation E)

-- term := conjunction { "or" conjunction }
abbrev pub SpellsDisjunction : (Term → List DriverPiece → List DriverPiece → Type 0) → Term → List DriverPiece → List DriverPiece → Type 0
SpellsDisjunction E = Gathered disjunction (SpellsConjunction E)

-- a term in brackets, in which brackets are nested at most d - 1 deep
unfoldable pub SpellsInner : ℕ → Term → List DriverPiece → List DriverPiece → Type 0
SpellsInner zero = λ t ts rest. ⊥
SpellsInner (suc d) = SpellsDisjunction (SpellsInner d)

-- A term with brackets nested at most 256 deep. Lines with more open brackets are rejected earlier.
abbrev pub SpellsTerm : Term → List DriverPiece → List DriverPiece → Type 0
SpellsTerm = SpellsDisjunction (SpellsInner BRACKET_DEPTH)

-- Lines.

-- The sentence of one line, by the tokens at its start:
--   WORD "(" ")" ":" | cell "=" term | "del" cell | cell { "," cell } "<-" WORD "(" ")"
--   | "if" term ":" | "else" ":" | "partition" "with" kind ":"
pub data SpellsSentence : Sentence → List DriverPiece → List DriverPiece → Type 0 where
  function : {w : List ℕ} {rest : List DriverPiece} → keyword_of w ≡ None →
      SpellsSentence (sentences.Function w) (Word w ∷ Sign OpenParen ∷ Sign CloseParen ∷ Sign Colon ∷ rest) rest
  set : {c : CellName} {t : Term} {ts us rest : List DriverPiece} → SpellsCell c ts (Sign Assign ∷ us) → SpellsTerm t us rest →
      SpellsSentence (sentences.Set c t) ts rest
  del : {w : List ℕ} {c : CellName} {ts rest : List DriverPiece} → keyword_of w ≡ Some keys.Del → SpellsCell c ts rest →
      SpellsSentence (sentences.Del c) (Word w ∷ ts) rest
  call : {w : List ℕ} {cs : List CellName} {ts rest : List DriverPiece}
      → Listed SpellsCell cs ts (Sign Receive ∷ Word w ∷ Sign OpenParen ∷ Sign CloseParen ∷ rest) → keyword_of w ≡ None →
      SpellsSentence (sentences.Call cs w) ts rest
  when : {w : List ℕ} {t : Term} {ts rest : List DriverPiece} → keyword_of w ≡ Some keys.If → SpellsTerm t ts (Sign Colon ∷ rest) →
      SpellsSentence (sentences.If t) (Word w ∷ ts) rest
  otherwise : {w : List ℕ} {rest : List DriverPiece} → keyword_of w ≡ Some keys.Else →
      SpellsSentence sentences.Else (Word w ∷ Sign Colon ∷ rest) rest
  partition : {w v : List ℕ} {k : Kind} {ts rest : List DriverPiece} → keyword_of w ≡ Some keys.Partition → keyword_of v ≡ Some keys.With
      → SpellsKind k ts (Sign Colon ∷ rest) →
      SpellsSentence (sentences.Partition k) (Word w ∷ Word v ∷ ts) rest
