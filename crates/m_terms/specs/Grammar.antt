-- The grammar of terms: one relation per level of precedence, with the relation E of the content of
-- brackets as a parameter. The last two arguments of each are tokens: `SpellsSum E t ts rest` means
-- that a prefix of ts parses as the sum t, and rest follows it.
use Rattle.std.specs.Prelude.{◌≡◌, ℕ, zero, suc, ℤ, Bool, true, false, List, [], ◌∷◌, Option, Some, None}
use Rattle.m_places.specs.declared.place.Place.{Place}
use Rattle.m_fixed.specs.declared.amount.Value.TheVariants.{Undef, Num}
use Rattle.m_fixed.specs.declared.operator.Op.{Op}
use Rattle.m_fixed.specs.declared.operator.Op.TheVariants as ops
use Rattle.m_lexer.specs.declared.token.Token.{Token}
use Rattle.m_lexer.specs.declared.token.Kind.{Kind}
use Rattle.m_lexer.specs.declared.token.Kind.TheVariants.{Word, Number, Key, Sign}
use Rattle.m_lexer.specs.declared.token.Key.{Key as AKey}
use Rattle.m_lexer.specs.declared.token.Key.TheVariants as keys
use Rattle.m_lexer.specs.declared.token.Sign.TheVariants as signs
use Rattle.m_ast.specs.declared.header.Header.{Header}
use Rattle.m_ast.specs.declared.term.Link.{Link}
use Rattle.m_ast.specs.declared.term.Member.{Member}
use Rattle.m_ast.specs.Syntax.{Syntax, lit, named, the_x, cell, apply, chain, among, loop, no_terms, a_term}
use Rattle.m_ast.specs.View.{links_of, members_of}
use Rattle.m_lexer.specs.Chains.{Chain}
use Rattle.m_terms.specs.Tokens.{at, sign, key, is_sign, Joined}
use Rattle.m_terms.specs.Headers.{SpellsHeader}

-- an operator on one, two or three arguments
abbrev pub one : Op → Syntax → Syntax
one op a = apply op (a_term a no_terms)

abbrev pub two : Op → Syntax → Syntax → Syntax
two op a b = apply op (a_term a (a_term b no_terms))

abbrev pub three : Op → Syntax → Syntax → Syntax → Syntax
three op a b c = apply op (a_term a (a_term b (a_term c no_terms)))

-- "+" | "-"
abbrev pub addition_of : Kind → Option Op
addition_of (Sign signs.Plus) = Some ops.Add
addition_of (Sign signs.Minus) = Some ops.Sub
addition_of _ = None

-- "*" | "/"
abbrev pub multiplication_of : Kind → Option Op
multiplication_of (Sign signs.Star) = Some ops.Mul
multiplication_of (Sign signs.Slash) = Some ops.Div
multiplication_of _ = None

-- "et"
abbrev pub conjunction_of : Kind → Option Op
conjunction_of (Key keys.Et) = Some ops.And
conjunction_of _ = None

-- "ou"
abbrev pub disjunction_of : Kind → Option Op
disjunction_of (Key keys.Ou) = Some ops.Or
disjunction_of _ = None

-- "=" | "!=" | "<" | "<=" | ">" | ">="
abbrev pub comparison_of : Kind → Option Op
comparison_of (Sign signs.Equal) = Some ops.Eq
comparison_of (Sign signs.NotEqual) = Some ops.Ne
comparison_of (Sign signs.Less) = Some ops.Lt
comparison_of (Sign signs.LessEqual) = Some ops.Le
comparison_of (Sign signs.Greater) = Some ops.Gt
comparison_of (Sign signs.GreaterEqual) = Some ops.Ge
comparison_of _ = None

-- the functions, each with its operator and whether it takes two arguments
abbrev pub function_of : AKey → Option (Op × Bool)
function_of keys.Present = Some (ops.Present, false)
function_of keys.Abs = Some (ops.Abs, false)
function_of keys.Positif = Some (ops.Positive, false)
function_of keys.PositifOuNul = Some (ops.PositiveOrNull, false)
function_of keys.Null = Some (ops.Null, false)
function_of keys.Arr = Some (ops.Arr, false)
function_of keys.Inf = Some (ops.Inf, false)
function_of keys.Max = Some (ops.Max, true)
function_of keys.Min = Some (ops.Min, true)
function_of _ = None

abbrev pub addition : Token → Option Op
addition t = addition_of t.kind

abbrev pub multiplication : Token → Option Op
multiplication t = multiplication_of t.kind

abbrev pub conjunction : Token → Option Op
conjunction t = conjunction_of t.kind

abbrev pub disjunction : Token → Option Op
disjunction t = disjunction_of t.kind

abbrev pub comparison : Token → Option Op
comparison t = comparison_of t.kind

abbrev pub link : Op → Syntax → Link
link op t = record { op = op; term = t }

abbrev pub member : Syntax → Syntax → Member
member a b = record { low = a; high = b }

-- one operand is itself, and several are a chain
abbrev pub gathered : Syntax → List Link → Syntax
gathered t [] = t
gathered t (o ∷ os) = chain t (links_of (o ∷ os))

-- R { operator R }, folded from the left
pub data Gathered (operator : Token → Option Op) (R : Syntax → List Token → List Token → Type 0) : Syntax → List Token → List Token → Type 0 where
  gather : {s t : Syntax} {os : List Link} {ts mid rest : List Token}
      → R t ts mid → Chain operator link R os mid rest → s ≡ gathered t os →
      Gathered operator R s ts rest

-- prim := NUMBER | WORD | "X" | WORD "[" expr "]" | "(" expr ")" | "si" expr "alors" expr [ "sinon" expr ] "finsi"
--     | FUNCTION "(" expr ")" | FUNCTION "(" expr "," expr ")" | "somme" "(" header ":" expr ")"
pub data SpellsPrim (E : Syntax → List Token → List Token → Type 0) : Syntax → List Token → List Token → Type 0 where
  number : {z : ℤ} {n : List ℕ} {p : Place} {rest : List Token} → SpellsPrim E (lit (Num z)) (at (Number z n) p ∷ rest) rest
  word : {w : List ℕ} {p : Place} {rest : List Token} → SpellsPrim E (named w p) (at (Word w) p ∷ rest) rest
  own : {p : Place} {rest : List Token} → SpellsPrim E (the_x p) (key keys.X p ∷ rest) rest
  read : {w : List ℕ} {t : Syntax} {p q r : Place} {ts rest : List Token}
      → E t ts (sign signs.CloseBracket r ∷ rest) →
      SpellsPrim E (cell w t p) (at (Word w) p ∷ sign signs.OpenBracket q ∷ ts) rest
  brackets : {t : Syntax} {p q : Place} {ts rest : List Token}
      → E t ts (sign signs.CloseParen q ∷ rest) → SpellsPrim E t (sign signs.OpenParen p ∷ ts) rest
  either : {a b c : Syntax} {p q r s : Place} {ts us vs rest : List Token}
      → E a ts (key keys.Alors q ∷ us) → E b us (key keys.Sinon r ∷ vs) → E c vs (key keys.Finsi s ∷ rest) →
      SpellsPrim E (three ops.Choose a b c) (key keys.Si p ∷ ts) rest
  only : {a b : Syntax} {p q r : Place} {ts us rest : List Token}
      → E a ts (key keys.Alors q ∷ us) → E b us (key keys.Finsi r ∷ rest) →
      SpellsPrim E (three ops.Choose a b (lit Undef)) (key keys.Si p ∷ ts) rest
  called : {k : AKey} {op : Op} {a : Syntax} {p q r : Place} {ts rest : List Token}
      → function_of k ≡ Some (op, false) → E a ts (sign signs.CloseParen r ∷ rest) →
      SpellsPrim E (one op a) (key k p ∷ sign signs.OpenParen q ∷ ts) rest
  called_two : {k : AKey} {op : Op} {a b : Syntax} {p q r s : Place} {ts us rest : List Token}
      → function_of k ≡ Some (op, true) → E a ts (sign signs.Comma r ∷ us) → E b us (sign signs.CloseParen s ∷ rest) →
      SpellsPrim E (two op a b) (key k p ∷ sign signs.OpenParen q ∷ ts) rest
  looped : {h : Header} {t : Syntax} {p q r s : Place} {ts us rest : List Token}
      → SpellsHeader h ts (sign signs.Colon r ∷ us) → E t us (sign signs.CloseParen s ∷ rest) →
      SpellsPrim E (loop h t) (key keys.Somme p ∷ sign signs.OpenParen q ∷ ts) rest

-- factor := [ "-" ] prim
pub data SpellsFactor (E : Syntax → List Token → List Token → Type 0) : Syntax → List Token → List Token → Type 0 where
  plain : {t : Syntax} {ts rest : List Token} → SpellsPrim E t ts rest → SpellsFactor E t ts rest
  minus : {t : Syntax} {p : Place} {ts rest : List Token}
      → SpellsPrim E t ts rest → SpellsFactor E (one ops.Neg t) (sign signs.Minus p ∷ ts) rest

-- prod := factor { ( "*" | "/" ) factor }
abbrev pub SpellsProduct : (Syntax → List Token → List Token → Type 0) → Syntax → List Token → List Token → Type 0
SpellsProduct E = Gathered multiplication (SpellsFactor E)

-- sum := prod { ( "+" | "-" ) prod }
abbrev pub SpellsSum : (Syntax → List Token → List Token → Type 0) → Syntax → List Token → List Token → Type 0
SpellsSum E = Gathered addition (SpellsProduct E)

-- [ "-" ] NUMBER
pub data SpellsSigned : Syntax → List Token → List Token → Type 0 where
  positive : {z : ℤ} {n : List ℕ} {p : Place} {rest : List Token} → SpellsSigned (lit (Num z)) (at (Number z n) p ∷ rest) rest
  negative : {z : ℤ} {n : List ℕ} {p q : Place} {rest : List Token}
      → SpellsSigned (one ops.Neg (lit (Num z))) (sign signs.Minus p ∷ at (Number z n) q ∷ rest) rest

-- member := [ "-" ] NUMBER | WORD | [ "-" ] NUMBER ".." [ "-" ] NUMBER
pub data SpellsMember : Member → List Token → List Token → Type 0 where
  amount : {a : Syntax} {ts rest : List Token} → SpellsSigned a ts rest → SpellsMember (member a a) ts rest
  name : {w : List ℕ} {p : Place} {rest : List Token} → SpellsMember (member (named w p) (named w p)) (at (Word w) p ∷ rest) rest
  range : {a b : Syntax} {p : Place} {ts us rest : List Token}
      → SpellsSigned a ts (sign signs.Range p ∷ us) → SpellsSigned b us rest →
      SpellsMember (member a b) ts rest

-- member { "," member }
abbrev pub SpellsMembers : List Member → List Token → List Token → Type 0
SpellsMembers = Joined (is_sign signs.Comma) SpellsMember

-- rel := sum [ comparison sum | [ "non" ] "dans" "(" members ")" ]
pub data SpellsRelation (E : Syntax → List Token → List Token → Type 0) : Syntax → List Token → List Token → Type 0 where
  alone : {t : Syntax} {ts rest : List Token} → SpellsSum E t ts rest → SpellsRelation E t ts rest
  compared : {op : Op} {a b : Syntax} {t : Token} {ts us rest : List Token}
      → SpellsSum E a ts (t ∷ us) → comparison t ≡ Some op → SpellsSum E b us rest →
      SpellsRelation E (two op a b) ts rest
  inside : {t : Syntax} {ms : List Member} {p q r : Place} {ts us rest : List Token}
      → SpellsSum E t ts (key keys.Dans p ∷ sign signs.OpenParen q ∷ us) → SpellsMembers ms us (sign signs.CloseParen r ∷ rest) →
      SpellsRelation E (among false t (members_of ms)) ts rest
  outside : {t : Syntax} {ms : List Member} {p q r s : Place} {ts us rest : List Token}
      → SpellsSum E t ts (key keys.Non p ∷ key keys.Dans q ∷ sign signs.OpenParen r ∷ us) → SpellsMembers ms us (sign signs.CloseParen s ∷ rest) →
      SpellsRelation E (among true t (members_of ms)) ts rest

-- neg := [ "non" ] rel
pub data SpellsNegation (E : Syntax → List Token → List Token → Type 0) : Syntax → List Token → List Token → Type 0 where
  affirmed : {t : Syntax} {ts rest : List Token} → SpellsRelation E t ts rest → SpellsNegation E t ts rest
  negated : {t : Syntax} {p : Place} {ts rest : List Token}
      → SpellsRelation E t ts rest → SpellsNegation E (one ops.Not t) (key keys.Non p ∷ ts) rest

-- conj := neg { "et" neg }
abbrev pub SpellsConjunction : (Syntax → List Token → List Token → Type 0) → Syntax → List Token → List Token → Type 0
SpellsConjunction E = Gathered conjunction (SpellsNegation E)

-- expr := conj { "ou" conj }
abbrev pub SpellsExpr : (Syntax → List Token → List Token → Type 0) → Syntax → List Token → List Token → Type 0
SpellsExpr E = Gathered disjunction (SpellsConjunction E)

-- the content of brackets, if d more levels may be opened: an expression in which d - 1 may be
unfoldable pub SpellsInner : ℕ → Syntax → List Token → List Token → Type 0
SpellsInner zero = λ t ts rest. ⊥
SpellsInner (suc d) = SpellsExpr (SpellsInner d)
