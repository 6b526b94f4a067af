-- Parsing as a function, against which the readers are proved: the tree at the start of the tokens
-- and the remaining tokens, or none.
use Rattle.std.specs.Prelude.{◌≡◌, ℕ, zero, suc, Bool, true, false, List, [], ◌∷◌, ◌++◌, length, Option, Some, None, Result, Ok, Err}
use Rattle.m_places.specs.declared.place.Place.{Place}
use Rattle.m_fixed.specs.declared.amount.Value.TheVariants.{Undef, Num}
use Rattle.m_fixed.specs.declared.operator.Op.{Op}
use Rattle.m_fixed.specs.declared.operator.Op.TheVariants as ops
use Rattle.m_lexer.specs.inner.Chains.{open_at, chain_at, choose, ◌>>=◌}
use Rattle.m_lexer.specs.declared.token.Token.{Token}
use Rattle.m_lexer.specs.declared.token.Kind.{Kind}
use Rattle.m_lexer.specs.declared.token.Kind.TheVariants.{Word, Number, Key, Sign}
use Rattle.m_lexer.specs.declared.token.Key.{Key as AKey}
use Rattle.m_lexer.specs.declared.token.Key.TheVariants as keys
use Rattle.m_lexer.specs.declared.token.Sign.TheVariants as signs
use Rattle.m_ast.specs.declared.header.Header.{Header}
use Rattle.m_ast.specs.declared.header.Index.{Index}
use Rattle.m_ast.specs.declared.header.Span.{Span}
use Rattle.m_ast.specs.declared.term.Link.{Link}
use Rattle.m_ast.specs.declared.term.Member.{Member}
use Rattle.m_ast.specs.Syntax.{Syntax, lit, named, the_x, cell, among, loop}
use Rattle.m_ast.specs.View.{members_of}
use Rattle.m_terms.specs.declared.fault.TermFault.{TermFault}
use Rattle.m_terms.specs.declared.fault.TermFault.TheVariants.{NoTerm, Memory}
use Rattle.m_terms.specs.declared.cursor.Mark.{Mark}
use Rattle.m_terms.specs.declared.cursor.Mark.TheVariants.{OfKey, OfSign}
use Rattle.m_terms.specs.declared.cursor.Level.{Level}
use Rattle.m_terms.specs.declared.cursor.Level.TheVariants.{Disjunction, Conjunction, Sum, Product}
use Rattle.m_terms.specs.Tokens.{is_sign, kind_is_sign, kind_is_key}
use Rattle.m_terms.specs.Headers.{point, letter, span, index, header}
use Rattle.m_terms.specs.Grammar.{one, two, three, addition, addition_of, multiplication, multiplication_of, conjunction, conjunction_of, disjunction}
use Rattle.m_terms.specs.Grammar.{disjunction_of, comparison, function_of, link, member, gathered}

-- A reader of the code returned the result of this function, unless it ran out of memory.
abbrev pub Fails : {A : Type 0} → TermFault → Option A → Type 0
Fails NoTerm read = read ≡ None
Fails Memory read = Unit {0}

abbrev pub GivesBy : {A B : Type 0} → (A → B) → Result A TermFault → Option (B × List Token) → List Token → Type 0
GivesBy view (Ok x) read rest = read ≡ Some (view x, rest)
GivesBy view (Err e) read rest = Fails e read

abbrev pub Gives : {A : Type 0} → Result A TermFault → Option (A × List Token) → List Token → Type 0
Gives = GivesBy (λ x. x)

-- Tokens.

-- a reserved word or a sign
abbrev pub is_kind : Mark → Kind → Option (Unit {0})
is_kind (OfKey k) = kind_is_key k
is_kind (OfSign s) = kind_is_sign s

abbrev pub is : Mark → Token → Option (Unit {0})
is m t = is_kind m t.kind

abbrev pub mark_at : Mark → List Token → Option (Unit {0} × List Token)
mark_at m = open_at (is m)

unfoldable pub joined_at : {A : Type 0} → (Token → Option (Unit {0})) → (List Token → Option (A × List Token)) → List Token → Option (List A × List Token)
joined_at opens p ts = p ts >>= λ first. chain_at opens (λ _ x. x) p (length first.1) (first.0 ∷ []) first.1

abbrev pub links_at : (Token → Option Op) → (List Token → Option (Syntax × List Token)) → List Token → Option (List Link × List Token)
links_at operator p ts = chain_at operator link p (length ts) [] ts

unfoldable pub gathered_at : (Token → Option Op) → (List Token → Option (Syntax × List Token)) → List Token → Option (Syntax × List Token)
gathered_at operator p ts = do
  first ← p ts
  others ← links_at operator p first.1
  Some (gathered first.0 others.0, others.1)

-- Headers.

unfoldable pub span_at : List Token → Option (Span × List Token)
span_at ts = do
  a ← open_at point ts
  choose (mark_at (OfSign signs.Range) a.1) (Some (span a.0 a.0, a.1)) (λ o. open_at point o.1 >>= λ b. Some (span a.0 b.0, b.1))

abbrev pub values_at : List Token → Option (List Span × List Token)
values_at = joined_at (is_sign signs.Comma) span_at

unfoldable pub places_at : List Token → Option (List Span × List Token)
places_at ts = choose (mark_at (OfSign signs.OpenParen) ts) (values_at ts) (λ o. values_at o.1 >>= λ vs. mark_at (OfSign signs.CloseParen) vs.1 >>= λ r. Some
    (vs.0, r.1))

unfoldable pub assigned_at : List Token → Option (Index × List Token)
assigned_at ts = do
  l ← open_at letter ts
  o ← mark_at (OfSign signs.Equal) l.1
  vs ← values_at o.1
  Some (index l.0 vs.0, vs.1)

unfoldable pub walked_at : List Token → Option (Index × List Token)
walked_at ts = do
  u ← mark_at (OfKey keys.Un) ts
  l ← open_at letter u.1
  o ← mark_at (OfKey keys.Dans) l.1
  vs ← places_at o.1
  Some (index l.0 vs.0, vs.1)

-- an index in either notation
abbrev pub index_at : Bool → List Token → Option (Index × List Token)
index_at true = walked_at
index_at false = assigned_at

abbrev pub further_index : Bool → Mark
further_index true = OfKey keys.Et
further_index false = OfSign signs.Semicolon

abbrev pub indexes_at : Bool → List Token → Option (List Index × List Token)
indexes_at by_words = joined_at (is (further_index by_words)) (index_at by_words)

abbrev pub header_from : List Index → Option Header
header_from [] = None
header_from (i ∷ is) = Some (header i is)

-- whether the table is defined at the first of these tokens
abbrev pub begins_by : (Token → Option (Unit {0})) → List Token → Bool
begins_by table ts = choose (open_at table ts) false (λ o. true)

abbrev pub begins : Mark → List Token → Bool
begins m = begins_by (is m)

unfoldable pub header_at : List Token → Option (Header × List Token)
header_at ts = do
  is ← indexes_at (begins (OfKey keys.Un) ts) ts
  h ← header_from is.0
  Some (h, is.1)

-- Terms, where `e` reads the content of brackets.

-- an expression and a token after it
unfoldable pub until_at : (List Token → Option (Syntax × List Token)) → Mark → List Token → Option (Syntax × List Token)
until_at e m ts = do
  t ← e ts
  r ← mark_at m t.1
  Some (t.0, r.1)

unfoldable pub other_at : (List Token → Option (Syntax × List Token)) → List Token → Option (Syntax × List Token)
other_at e ts = choose (mark_at (OfKey keys.Sinon) ts) (mark_at (OfKey keys.Finsi) ts >>= λ r. Some (lit Undef, r.1)) (λ o. until_at e (OfKey keys.Finsi) o.1)

unfoldable pub choice_at : (List Token → Option (Syntax × List Token)) → List Token → Option (Syntax × List Token)
choice_at e ts = do
  a ← until_at e (OfKey keys.Alors) ts
  b ← e a.1
  c ← other_at e b.1
  Some (three ops.Choose a.0 b.0 c.0, c.1)

unfoldable pub named_at : (List Token → Option (Syntax × List Token)) → List ℕ → Place → List Token → Option (Syntax × List Token)
named_at e w p ts = choose (mark_at (OfSign signs.OpenBracket) ts) (Some (named w p, ts))
    (λ o. until_at e (OfSign signs.CloseBracket) o.1 >>= λ t. Some (cell w t.0 p, t.1))

unfoldable pub called_at : (List Token → Option (Syntax × List Token)) → Op → List Token → Option (Syntax × List Token)
called_at e op ts = until_at e (OfSign signs.CloseParen) ts >>= λ t. Some (one op t.0, t.1)

unfoldable pub called_two_at : (List Token → Option (Syntax × List Token)) → Op → List Token → Option (Syntax × List Token)
called_two_at e op ts = do
  a ← until_at e (OfSign signs.Comma) ts
  b ← until_at e (OfSign signs.CloseParen) a.1
  Some (two op a.0 b.0, b.1)

abbrev pub arguments_at : (List Token → Option (Syntax × List Token)) → Op → Bool → List Token → Option (Syntax × List Token)
arguments_at e op false = called_at e op
arguments_at e op true = called_two_at e op

unfoldable pub call_at : (List Token → Option (Syntax × List Token)) → Op × Bool → List Token → Option (Syntax × List Token)
call_at e f ts = mark_at (OfSign signs.OpenParen) ts >>= λ o. arguments_at e f.0 f.1 o.1

unfoldable pub loop_at : (List Token → Option (Syntax × List Token)) → List Token → Option (Syntax × List Token)
loop_at e ts = do
  o ← mark_at (OfSign signs.OpenParen) ts
  h ← header_at o.1
  c ← mark_at (OfSign signs.Colon) h.1
  t ← until_at e (OfSign signs.CloseParen) c.1
  Some (loop h.0 t.0, t.1)

-- after a reserved word that isn't a function
unfoldable pub other_word_at : (List Token → Option (Syntax × List Token)) → AKey → Place → List Token → Option (Syntax × List Token)
other_word_at e keys.X p ts = Some (the_x p, ts)
other_word_at e keys.Si p ts = choice_at e ts
other_word_at e keys.Somme p ts = loop_at e ts
other_word_at e _ p ts = None

unfoldable pub word_at : (List Token → Option (Syntax × List Token)) → AKey → Place → List Token → Option (Syntax × List Token)
word_at e k p ts = choose (function_of k) (other_word_at e k p ts) (λ f. call_at e f ts)

unfoldable pub prim_of : (List Token → Option (Syntax × List Token)) → Kind → Place → List Token → Option (Syntax × List Token)
prim_of e (Number z n) p ts = Some (lit (Num z), ts)
prim_of e (Word w) p ts = named_at e w p ts
prim_of e (Key k) p ts = word_at e k p ts
prim_of e (Sign signs.OpenParen) p ts = until_at e (OfSign signs.CloseParen) ts
prim_of e _ p ts = None

abbrev pub prim_at : (List Token → Option (Syntax × List Token)) → List Token → Option (Syntax × List Token)
prim_at e [] = None
prim_at e (t ∷ ts) = prim_of e t.kind t.place ts

unfoldable pub factor_at : (List Token → Option (Syntax × List Token)) → List Token → Option (Syntax × List Token)
factor_at e ts = choose (mark_at (OfSign signs.Minus) ts) (prim_at e ts) (λ o. prim_at e o.1 >>= λ t. Some (one ops.Neg t.0, t.1))

abbrev pub product_at : (List Token → Option (Syntax × List Token)) → List Token → Option (Syntax × List Token)
product_at e = gathered_at multiplication (factor_at e)

abbrev pub sum_at : (List Token → Option (Syntax × List Token)) → List Token → Option (Syntax × List Token)
sum_at e = gathered_at addition (product_at e)

abbrev pub number_of : Kind → Option Syntax
number_of (Number z n) = Some (lit (Num z))
number_of _ = None

abbrev pub number : Token → Option Syntax
number t = number_of t.kind

abbrev pub word_of : Kind → Place → Option Syntax
word_of (Word w) p = Some (named w p)
word_of _ p = None

abbrev pub plain_word : Token → Option Syntax
plain_word t = word_of t.kind t.place

unfoldable pub signed_at : List Token → Option (Syntax × List Token)
signed_at ts = choose (mark_at (OfSign signs.Minus) ts) (open_at number ts) (λ o. open_at number o.1 >>= λ z. Some (one ops.Neg z.0, z.1))

-- one amount, or a range of amounts
unfoldable pub ends_at : List Token → Option (Member × List Token)
ends_at ts = do
  a ← signed_at ts
  choose (mark_at (OfSign signs.Range) a.1) (Some (member a.0 a.0, a.1)) (λ o. signed_at o.1 >>= λ b. Some (member a.0 b.0, b.1))

unfoldable pub member_at : List Token → Option (Member × List Token)
member_at ts = choose (open_at plain_word ts) (ends_at ts) (λ w. Some (member w.0 w.0, w.1))

unfoldable pub members_at : List Token → Option (List Member × List Token)
members_at ts = do
  o ← mark_at (OfSign signs.OpenParen) ts
  ms ← joined_at (is_sign signs.Comma) member_at o.1
  r ← mark_at (OfSign signs.CloseParen) ms.1
  Some (ms.0, r.1)

unfoldable pub inside_at : Bool → Syntax → List Token → Option (Syntax × List Token)
inside_at outside t ts = members_at ts >>= λ ms. Some (among outside t (members_of ms.0), ms.1)

unfoldable pub outside_at : Syntax → List Token → Option (Syntax × List Token)
outside_at t ts = mark_at (OfKey keys.Dans) ts >>= λ d. inside_at true t d.1

-- after a sum that no comparison follows
unfoldable pub membership_at : Syntax → List Token → Option (Syntax × List Token)
membership_at t ts = choose (mark_at (OfKey keys.Dans) ts) (choose (mark_at (OfKey keys.Non) ts) (Some (t, ts)) (λ n. outside_at t n.1))
    (λ d. inside_at false t d.1)

unfoldable pub relation_at : (List Token → Option (Syntax × List Token)) → List Token → Option (Syntax × List Token)
relation_at e ts = do
  a ← sum_at e ts
  choose (open_at comparison a.1) (membership_at a.0 a.1) (λ o. sum_at e o.1 >>= λ b. Some (two o.0 a.0 b.0, b.1))

unfoldable pub negation_at : (List Token → Option (Syntax × List Token)) → List Token → Option (Syntax × List Token)
negation_at e ts = choose (mark_at (OfKey keys.Non) ts) (relation_at e ts) (λ o. relation_at e o.1 >>= λ t. Some (one ops.Not t.0, t.1))

abbrev pub conjunction_at : (List Token → Option (Syntax × List Token)) → List Token → Option (Syntax × List Token)
conjunction_at e = gathered_at conjunction (negation_at e)

abbrev pub expr_at : (List Token → Option (Syntax × List Token)) → List Token → Option (Syntax × List Token)
expr_at e = gathered_at disjunction (conjunction_at e)

-- the operators of a level of left folds, and their operands
abbrev pub operator_of : Level → Kind → Option Op
operator_of Disjunction = disjunction_of
operator_of Conjunction = conjunction_of
operator_of Sum = addition_of
operator_of Product = multiplication_of

abbrev pub operator_at : Level → Token → Option Op
operator_at level t = operator_of level t.kind

abbrev pub operand_at : (List Token → Option (Syntax × List Token)) → Level → List Token → Option (Syntax × List Token)
operand_at e Disjunction = conjunction_at e
operand_at e Conjunction = negation_at e
operand_at e Sum = product_at e
operand_at e Product = factor_at e

abbrev pub level_at : (List Token → Option (Syntax × List Token)) → Level → List Token → Option (Syntax × List Token)
level_at e level = gathered_at (operator_at level) (operand_at e level)

unfoldable pub inner_at : ℕ → List Token → Option (Syntax × List Token)
inner_at zero ts = None
inner_at (suc d) ts = expr_at (inner_at d) ts
