-- Parsing as a function: the tree at the start of the tokens and the tokens after it, or none. The
-- grammar is a relation; the parsers are proved against these functions, and these against the
-- grammar.
use Rattle.std.specs.Prelude.{◌≡◌, ℕ, zero, suc, ℤ, cond, List, [], ◌∷◌, ◌++◌, length, Option, Some, None, Result, Ok, Err, codes}
use Rattle.std.specs.Str.{bytes_eq}
use Rattle.m_places.specs.declared.limits.TheConstants.{BRACKET_DEPTH}
use Rattle.m_fixed.specs.declared.amount.Value.TheVariants.{Num}
use Rattle.m_fixed.specs.declared.operator.Op.{Op}
use Rattle.m_fixed.specs.declared.operator.Op.TheVariants as ops
use Rattle.m_text.specs.Numbers.{whole_number}
use Rattle.m_lexer.specs.inner.Chains.{open_at, chain_at, choose, ◌>>=◌}
use Rattle.mpp_lexer.specs.declared.piece.DriverPiece.{DriverPiece}
use Rattle.mpp_lexer.specs.declared.piece.DriverPiece.TheVariants.{Word, Number, Sign}
use Rattle.mpp_lexer.specs.declared.piece.DriverSign.{DriverSign}
use Rattle.mpp_lexer.specs.declared.piece.DriverSign.TheVariants.{OpenParen, CloseParen, OpenBracket, CloseBracket, Comma, Colon, Assign, Minus, Receive}
use Rattle.mpp_parser.specs.declared.keyword.Keyword.{Keyword}
use Rattle.mpp_parser.specs.declared.keyword.Keyword.TheVariants as keys
use Rattle.mpp_parser.specs.declared.unread.Unread.{Unread}
use Rattle.mpp_parser.specs.declared.unread.Unread.TheVariants.{NotSpelled, Memory}
use Rattle.mpp_parser.specs.declared.expression.Prec.{Prec}
use Rattle.mpp_parser.specs.declared.expression.Prec.TheVariants as levels
use Rattle.mpp_parser.specs.declared.term.CellName.{CellName}
use Rattle.mpp_parser.specs.declared.term.DLink.{DLink}
use Rattle.mpp_parser.specs.declared.term.Kind.{Kind}
use Rattle.mpp_parser.specs.declared.term.Kind.TheVariants.{Attribute}
use Rattle.mpp_parser.specs.declared.sentence.Sentence.{Sentence}
use Rattle.mpp_parser.specs.declared.sentence.Sentence.TheVariants as sentences
use Rattle.mpp_parser.specs.Keywords.{keyword_of}
use Rattle.mpp_parser.specs.Trees.{Term, lit, named, exists}
use Rattle.mpp_parser.specs.Grammar.{is, key, disjunction, conjunction, comparison, addition, multiplication, link, gathered, unary, binary, cast_of}
use Rattle.mpp_parser.specs.Grammar.{tax_benefit}

-- The code's result is that of the parsing function, unless memory ran out.
abbrev pub Fails : {A : Type 0} → Unread → Option A → Type 0
Fails NotSpelled read = read ≡ None
Fails Memory read = Unit {0}

abbrev pub GivesBy : {A B : Type 0} → (A → B) → Result A Unread → Option (B × List DriverPiece) → List DriverPiece → Type 0
GivesBy view (Ok x) read rest = read ≡ Some (view x, rest)
GivesBy view (Err e) read rest = Fails e read

-- Tokens.

abbrev pub sign_at : DriverSign → List DriverPiece → Option (Unit {0} × List DriverPiece)
sign_at s = open_at (is s)

abbrev pub key_at : Keyword → List DriverPiece → Option (Unit {0} × List DriverPiece)
key_at k = open_at (key k)

abbrev pub number_of : DriverPiece → Option ℤ
number_of (Number z t) = Some z
number_of _ = None

abbrev pub number_at : List DriverPiece → Option (ℤ × List DriverPiece)
number_at = open_at number_of

abbrev pub index_of : DriverPiece → Option ℕ
index_of (Number z t) = whole_number t
index_of _ = None

abbrev pub index_at : List DriverPiece → Option (ℕ × List DriverPiece)
index_at = open_at index_of

abbrev pub free : List ℕ → Option Keyword → Option (List ℕ)
free w None = Some w
free w (Some k) = None

-- a word that isn't reserved
abbrev pub word_of : DriverPiece → Option (List ℕ)
word_of (Word w) = free w (keyword_of w)
word_of _ = None

abbrev pub word_at : List DriverPiece → Option (List ℕ × List DriverPiece)
word_at = open_at word_of

abbrev pub links_at : (DriverPiece → Option Op) → (List DriverPiece → Option (Term × List DriverPiece)) → List DriverPiece
    → Option (List DLink × List DriverPiece)
links_at operator p ts = chain_at operator link p (length ts) [] ts

unfoldable pub gathered_at : (DriverPiece → Option Op) → (List DriverPiece → Option (Term × List DriverPiece)) → List DriverPiece
    → Option (Term × List DriverPiece)
gathered_at operator p ts = do
  first ← p ts
  others ← links_at operator p first.1
  Some (gathered first.0 others.0, others.1)

-- Cells and kinds.

unfoldable pub bracket_at : List DriverPiece → Option (ℕ × List DriverPiece)
bracket_at ts = do
  n ← index_at ts
  r ← sign_at CloseBracket n.1
  Some (n.0, r.1)

-- after the word
unfoldable pub cell_rest_at : List ℕ → List DriverPiece → Option (CellName × List DriverPiece)
cell_rest_at w ts = choose (sign_at OpenBracket ts) (Some (record { name = w; index = None }, ts))
    (λ o. bracket_at o.1 >>= λ n. Some (record { name = w; index = Some n.0 }, n.1))

unfoldable pub cell_at : List DriverPiece → Option (CellName × List DriverPiece)
cell_at ts = do
  w ← word_at ts
  cell_rest_at w.0 w.1

unfoldable pub numbers_at : List DriverPiece → Option (List ℤ × List DriverPiece)
numbers_at ts = do
  first ← number_at ts
  chain_at (is Comma) (λ _ x. x) number_at (length first.1) (first.0 ∷ []) first.1

unfoldable pub benefit_of : List ℕ → Option Kind
benefit_of w = cond (bytes_eq w (codes "taxbenefit")) (Some tax_benefit) None

unfoldable pub kind_at : List DriverPiece → Option (Kind × List DriverPiece)
kind_at ts = do
  w ← word_at ts
  choose (sign_at Assign w.1) (benefit_of w.0 >>= λ k. Some (k, w.1)) (λ o. numbers_at o.1 >>= λ zs. Some (Attribute w.0 zs.0, zs.1))

-- "(" cell ")" and "(" kind ")"
unfoldable pub enclosed_at : {A : Type 0} → (List DriverPiece → Option (A × List DriverPiece)) → List DriverPiece → Option (A × List DriverPiece)
enclosed_at p ts = do
  o ← sign_at OpenParen ts
  x ← p o.1
  r ← sign_at CloseParen x.1
  Some (x.0, r.1)

-- Terms, where e parses a term in brackets.

-- a term and a sign after it
unfoldable pub until_at : (List DriverPiece → Option (Term × List DriverPiece)) → DriverSign → List DriverPiece → Option (Term × List DriverPiece)
until_at e s ts = do
  t ← e ts
  r ← sign_at s t.1
  Some (t.0, r.1)

-- after a word that is this keyword, or none
unfoldable pub word_prim_at : List ℕ → Option Keyword → List DriverPiece → Option (Term × List DriverPiece)
word_prim_at w None ts = cell_rest_at w ts >>= λ c. Some (named c.0, c.1)
word_prim_at w (Some keys.Present) ts = enclosed_at cell_at ts >>= λ c. Some (unary ops.Present (named c.0), c.1)
word_prim_at w (Some keys.Cast) ts = enclosed_at cell_at ts >>= λ c. Some (cast_of c.0, c.1)
word_prim_at w (Some keys.Exists) ts = enclosed_at kind_at ts >>= λ k. Some (exists k.0, k.1)
word_prim_at w (Some _) ts = None

unfoldable pub prim_at : (List DriverPiece → Option (Term × List DriverPiece)) → List DriverPiece → Option (Term × List DriverPiece)
prim_at e (Number z t ∷ ts) = Some (lit (Num z), ts)
prim_at e (Word w ∷ ts) = word_prim_at w (keyword_of w) ts
prim_at e (Sign OpenParen ∷ ts) = until_at e CloseParen ts
prim_at e _ = None

unfoldable pub factor_at : (List DriverPiece → Option (Term × List DriverPiece)) → List DriverPiece → Option (Term × List DriverPiece)
factor_at e ts = choose (sign_at Minus ts) (prim_at e ts) (λ o. prim_at e o.1 >>= λ t. Some (unary ops.Neg t.0, t.1))

abbrev pub product_at : (List DriverPiece → Option (Term × List DriverPiece)) → List DriverPiece → Option (Term × List DriverPiece)
product_at e = gathered_at multiplication (factor_at e)

abbrev pub sum_at : (List DriverPiece → Option (Term × List DriverPiece)) → List DriverPiece → Option (Term × List DriverPiece)
sum_at e = gathered_at addition (product_at e)

unfoldable pub relation_at : (List DriverPiece → Option (Term × List DriverPiece)) → List DriverPiece → Option (Term × List DriverPiece)
relation_at e ts = do
  a ← sum_at e ts
  choose (open_at comparison a.1) (Some a) (λ o. sum_at e o.1 >>= λ b. Some (binary o.0 a.0 b.0, b.1))

unfoldable pub negation_at : (List DriverPiece → Option (Term × List DriverPiece)) → List DriverPiece → Option (Term × List DriverPiece)
negation_at e ts = choose (key_at keys.Not ts) (relation_at e ts) (λ o. relation_at e o.1 >>= λ t. Some (unary ops.Not t.0, t.1))

abbrev pub conjunction_at : (List DriverPiece → Option (Term × List DriverPiece)) → List DriverPiece → Option (Term × List DriverPiece)
conjunction_at e = gathered_at conjunction (negation_at e)

abbrev pub disjunction_at : (List DriverPiece → Option (Term × List DriverPiece)) → List DriverPiece → Option (Term × List DriverPiece)
disjunction_at e = gathered_at disjunction (conjunction_at e)

unfoldable pub inner_at : ℕ → List DriverPiece → Option (Term × List DriverPiece)
inner_at zero ts = None
inner_at (suc d) ts = disjunction_at (inner_at d) ts

-- the four levels of left-associative chains: their operators, and their operands
abbrev pub operator_of : Prec → DriverPiece → Option Op
operator_of levels.Or = disjunction
operator_of levels.And = conjunction
operator_of levels.Sum = addition
operator_of levels.Product = multiplication

abbrev pub part_at : (List DriverPiece → Option (Term × List DriverPiece)) → Prec → List DriverPiece → Option (Term × List DriverPiece)
part_at e levels.Or = conjunction_at e
part_at e levels.And = negation_at e
part_at e levels.Sum = product_at e
part_at e levels.Product = factor_at e

unfoldable pub term_at : List DriverPiece → Option (Term × List DriverPiece)
term_at = disjunction_at (inner_at BRACKET_DEPTH)

-- Lines.

-- after a name and "<-" the rest of a call, which receives these cells
unfoldable pub called_at : List CellName → List DriverPiece → Option (Sentence × List DriverPiece)
called_at cs ts = do
  r ← sign_at Receive ts
  w ← word_at r.1
  o ← sign_at OpenParen w.1
  c ← sign_at CloseParen o.1
  Some (sentences.Call cs w.0, c.1)

unfoldable pub cells_at : CellName → List DriverPiece → Option (List CellName × List DriverPiece)
cells_at c ts = chain_at (is Comma) (λ _ x. x) cell_at (length ts) (c ∷ []) ts

unfoldable pub call_at : CellName → List DriverPiece → Option (Sentence × List DriverPiece)
call_at c ts = do
  cs ← cells_at c ts
  called_at cs.0 cs.1

-- after the first word, which isn't reserved
unfoldable pub command_rest_at : List ℕ → List DriverPiece → Option (Sentence × List DriverPiece)
command_rest_at w ts = do
  c ← cell_rest_at w ts
  choose (sign_at Assign c.1) (call_at c.0 c.1) (λ o. term_at o.1 >>= λ t. Some (sentences.Set c.0 t.0, t.1))

unfoldable pub function_rest_at : List ℕ → List DriverPiece → Option (Sentence × List DriverPiece)
function_rest_at w ts = do
  c ← sign_at CloseParen ts
  r ← sign_at Colon c.1
  Some (sentences.Function w, r.1)

unfoldable pub named_at : List ℕ → List DriverPiece → Option (Sentence × List DriverPiece)
named_at w ts = choose (sign_at OpenParen ts) (command_rest_at w ts) (λ o. function_rest_at w o.1)

unfoldable pub partition_at : List DriverPiece → Option (Sentence × List DriverPiece)
partition_at ts = do
  w ← key_at keys.With ts
  k ← kind_at w.1
  r ← sign_at Colon k.1
  Some (sentences.Partition k.0, r.1)

-- after a first word that is this keyword, or none
unfoldable pub worded_at : List ℕ → Option Keyword → List DriverPiece → Option (Sentence × List DriverPiece)
worded_at w None ts = named_at w ts
worded_at w (Some keys.Del) ts = cell_at ts >>= λ c. Some (sentences.Del c.0, c.1)
worded_at w (Some keys.If) ts = until_at term_at Colon ts >>= λ t. Some (sentences.If t.0, t.1)
worded_at w (Some keys.Else) ts = sign_at Colon ts >>= λ r. Some (sentences.Else, r.1)
worded_at w (Some keys.Partition) ts = partition_at ts
worded_at w (Some _) ts = None

unfoldable pub sentence_at : List DriverPiece → Option (Sentence × List DriverPiece)
sentence_at (Word w ∷ ts) = worded_at w (keyword_of w) ts
sentence_at _ = None

abbrev pub whole : Sentence → List DriverPiece → Option Sentence
whole s [] = Some s
whole s (t ∷ ts) = None

-- the sentence of a whole line
unfoldable pub line_at : List DriverPiece → Option Sentence
line_at ts = sentence_at ts >>= λ s. whole s.0 s.1

-- the code's result for a whole line is that of the parsing function, unless memory ran out
abbrev pub ReadsAll : Result Sentence Unread → Option Sentence → Type 0
ReadsAll (Ok s) read = read ≡ Some s
ReadsAll (Err e) read = Fails e read
