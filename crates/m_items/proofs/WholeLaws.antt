-- Every spelling is whole: each chain has two operands or more, and no list in a term is empty.
use Rattle.std.proofs.Common.{◌≢◌, ℕ, zero, suc, List, [], ◌∷◌, Option, subst, sym}
use Rattle.std.specs.Prelude.{All}
use Rattle.std.proofs.lemmas.List.Elements.{All-nil, All-cons}
use Rattle.m_places.specs.declared.limits.TheConstants.{BRACKET_DEPTH}
use Rattle.m_fixed.specs.declared.operator.Op.{Op}
use Rattle.m_lexer.specs.declared.token.Token.{Token}
use Rattle.m_ast.specs.Syntax.{Syntax, no_members}
use Rattle.m_ast.specs.View.{links_of, members_of}
use Rattle.m_ast.specs.Whole.{IsWholeIndex, IsWholeHeader, IsWhole, AreWholeLinks, AreWholeMembers, IsWholeFormula, IsWholeCheck}
use Rattle.m_ast.specs.declared.header.Header.{Header}
use Rattle.m_ast.specs.declared.header.Index.{Index}
use Rattle.m_ast.specs.declared.header.Span.{Span}
use Rattle.m_ast.specs.declared.term.Link.{Link}
use Rattle.m_ast.specs.declared.term.Member.{Member}
use Rattle.m_ast.specs.declared.item.Formula.{Formula}
use Rattle.m_ast.specs.declared.item.CheckItem.{CheckItem}
use Rattle.m_ast.specs.declared.item.RuleItem.{RuleItem}
use Rattle.m_ast.specs.declared.item.VerifItem.{VerifItem}
use Rattle.m_lexer.specs.Chains.{Chain, ended, further}
use Rattle.m_terms.specs.Tokens.{Joined, joined}
use Rattle.m_terms.specs.Headers.{SpellsPlaces, bare, bracketed, SpellsAssigned, assigned, SpellsWalked, walked, SpellsHeader, by_signs, by_words}
use Rattle.m_terms.specs.Grammar.{addition, multiplication, conjunction, disjunction, link, gathered, Gathered, gather, SpellsPrim, number, word, own, read}
use Rattle.m_terms.specs.Grammar.{brackets, either, only, called, called_two, looped, SpellsFactor, plain, minus, SpellsProduct, SpellsSum, SpellsSigned}
use Rattle.m_terms.specs.Grammar.{positive, negative, SpellsMember, amount, name, range, SpellsMembers, SpellsRelation, alone, compared, inside, outside}
use Rattle.m_terms.specs.Grammar.{SpellsNegation, affirmed, negated, SpellsConjunction, SpellsExpr, SpellsInner}
use Rattle.m_terms.specs.Terms.{SpellsTerm}
use Rattle.m_items.specs.Many.{Many, no_more, one_more, OneOrMore, one}
use Rattle.m_items.specs.RuleGrammar.{SpellsLoop, loop, SpellsFormula, formula, SpellsRule, rule, SpellsCheck, check, SpellsVerification, verification}

-- Lists of parts.
some_there : {A : Type 0} {x : A} {xs : List A} → (x ∷ xs) ≢ []
some_there e = absurd (cc)

module _ {A : Type 0} (R : A → List Token → List Token → Type 0) (P : A → Type 0) (each : (x : A) (ts rest : List Token) → R x ts rest → P x) where
  pub chain_each : {opens : Token → Option (Unit {0})} {xs : List A} {ts rest : List Token} → Chain opens (λ _ x. x) R xs ts rest → All P xs
  chain_each ended = All-nil P
  chain_each (further {x = x} {xs = xs} o d c) = All-cons P x xs (each _ _ _ d) (chain_each c)

  pub many_each : {xs : List A} {ts rest : List Token} → Many R xs ts rest → All P xs
  many_each no_more = All-nil P
  many_each (one_more {x = x} {xs = xs} d e) = All-cons P x xs (each _ _ _ d) (many_each e)

  pub one_or_more_each : {xs : List A} {ts rest : List Token} → OneOrMore R xs ts rest → All P xs
  one_or_more_each (one {x = x} {xs = xs} d e) = All-cons P x xs (each _ _ _ d) (many_each e)

  pub joined_each : {opens : Token → Option (Unit {0})} {xs : List A} {ts rest : List Token} → Joined opens R xs ts rest → All P xs
  joined_each (joined {x = x} {xs = xs} d c) = All-cons P x xs (each _ _ _ d) (chain_each c)

joined_some : {A : Type 0} {opens : Token → Option (Unit {0})} {R : A → List Token → List Token → Type 0} {xs : List A} {ts rest : List Token}
    → Joined opens R xs ts rest → xs ≢ []
joined_some (joined d c) = some_there

-- Headers.
places_some : {vs : List Span} {ts rest : List Token} → SpellsPlaces vs ts rest → vs ≢ []
places_some (bare d) = joined_some d
places_some (bracketed d) = joined_some d

assigned_whole : (i : Index) (ts rest : List Token) → SpellsAssigned i ts rest → IsWholeIndex i
assigned_whole _ _ _ (assigned d f) = joined_some f

walked_whole : (i : Index) (ts rest : List Token) → SpellsWalked i ts rest → IsWholeIndex i
walked_whole _ _ _ (walked d f) = places_some f

header_whole : {h : Header} {ts rest : List Token} → SpellsHeader h ts rest → IsWholeHeader h
header_whole (by_signs d) = record { some_index = joined_some d; each_index = joined_each SpellsAssigned IsWholeIndex assigned_whole d }
header_whole (by_words d) = record { some_index = joined_some d; each_index = joined_each SpellsWalked IsWholeIndex walked_whole d }

-- Terms.
signed_whole : {t : Syntax} {ts rest : List Token} → SpellsSigned t ts rest → IsWhole t
signed_whole positive = tt
signed_whole negative = (tt, tt)

member_whole : {m : Member} {ts rest : List Token} → SpellsMember m ts rest → IsWhole m.low × IsWhole m.high
member_whole (amount d) = (signed_whole d, signed_whole d)
member_whole name = (tt, tt)
member_whole (range d e) = (signed_whole d, signed_whole e)

chained_members : {opens : Token → Option (Unit {0})} {ms : List Member} {ts rest : List Token} → Chain opens (λ _ x. x) SpellsMember ms ts rest
    → AreWholeMembers (members_of ms)
chained_members ended = tt
chained_members (further o d c) = let m = member_whole d in (m.0, m.1, chained_members c)

a_member_there : (m : Member) (ms : List Member) → members_of (m ∷ ms) ≢ no_members
a_member_there m ms e = absurd (cc)

members_whole : {ms : List Member} {ts rest : List Token} → SpellsMembers ms ts rest → (members_of ms ≢ no_members) × AreWholeMembers (members_of ms)
members_whole (joined {x = x} {xs = xs} d c) = let m = member_whole d in (a_member_there x xs, (m.0, m.1, chained_members c))

abbrev Whole : (Syntax → List Token → List Token → Type 0) → Type 0
Whole R = (t : Syntax) (ts rest : List Token) → R t ts rest → IsWhole t

module _ (operator : Token → Option Op) (R : Syntax → List Token → List Token → Type 0) (whole : Whole R) where
  links_whole : {os : List Link} {ts rest : List Token} → Chain operator link R os ts rest → AreWholeLinks (links_of os)
  links_whole ended = tt
  links_whole (further o d c) = (whole _ _ _ d, links_whole c)

  gathered_all : (t : Syntax) (os : List Link) → IsWhole t → AreWholeLinks (links_of os) → IsWhole (gathered t os)
  gathered_all t [] h k = h
  gathered_all t (o ∷ os) h k = ((λ e. absurd (cc)), h, k)

  gathered_whole : Whole (Gathered operator R)
  gathered_whole _ _ _ (gather {os = os} d c e) = subst IsWhole (sym e) (gathered_all _ os (whole _ _ _ d) (links_whole c))

module _ (E : Syntax → List Token → List Token → Type 0) (whole : Whole E) where
  prim_whole : Whole (SpellsPrim E)
  prim_whole _ _ _ number = tt
  prim_whole _ _ _ word = tt
  prim_whole _ _ _ own = tt
  prim_whole _ _ _ (read d) = whole _ _ _ d
  prim_whole _ _ _ (brackets d) = whole _ _ _ d
  prim_whole _ _ _ (either a b c) = (whole _ _ _ a, (whole _ _ _ b, (whole _ _ _ c, tt)))
  prim_whole _ _ _ (only a b) = (whole _ _ _ a, (whole _ _ _ b, (tt, tt)))
  prim_whole _ _ _ (called i d) = (whole _ _ _ d, tt)
  prim_whole _ _ _ (called_two i a b) = (whole _ _ _ a, (whole _ _ _ b, tt))
  prim_whole _ _ _ (looped h d) = (header_whole h, whole _ _ _ d)

  factor_whole : Whole (SpellsFactor E)
  factor_whole _ _ _ (plain d) = prim_whole _ _ _ d
  factor_whole _ _ _ (minus d) = (prim_whole _ _ _ d, tt)

  product_whole : Whole (SpellsProduct E)
  product_whole = gathered_whole multiplication (SpellsFactor E) factor_whole

  sum_whole : Whole (SpellsSum E)
  sum_whole = gathered_whole addition (SpellsProduct E) product_whole

  relation_whole : Whole (SpellsRelation E)
  relation_whole _ _ _ (alone d) = sum_whole _ _ _ d
  relation_whole _ _ _ (compared d i e) = (sum_whole _ _ _ d, (sum_whole _ _ _ e, tt))
  relation_whole _ _ _ (inside d m) = let q = members_whole m in (q.0, sum_whole _ _ _ d, q.1)
  relation_whole _ _ _ (outside d m) = let q = members_whole m in (q.0, sum_whole _ _ _ d, q.1)

  negation_whole : Whole (SpellsNegation E)
  negation_whole _ _ _ (affirmed d) = relation_whole _ _ _ d
  negation_whole _ _ _ (negated d) = (relation_whole _ _ _ d, tt)

  expr_whole : Whole (SpellsExpr E)
  expr_whole = gathered_whole disjunction (SpellsConjunction E) (gathered_whole conjunction (SpellsNegation E) negation_whole)

inner_whole : (d : ℕ) → Whole (SpellsInner d)
unfolding SpellsInner
inner_whole zero = λ t ts rest h. absurd h
inner_whole (suc d) = expr_whole (SpellsInner d) (inner_whole d)

term_whole : {t : Syntax} {ts rest : List Token} → SpellsTerm t ts rest → IsWhole t
term_whole d = expr_whole (SpellsInner BRACKET_DEPTH) (inner_whole BRACKET_DEPTH) _ _ _ d

-- Formulas and checks.
loop_whole : (h : Header) (ts rest : List Token) → SpellsLoop h ts rest → IsWholeHeader h
loop_whole _ _ _ (loop d s) = header_whole d

formula_whole : (f : Formula) (ts rest : List Token) → SpellsFormula f ts rest → IsWholeFormula f
formula_whole _ _ _ (formula l d e s f g) = record { loops = chain_each SpellsLoop IsWholeHeader loop_whole l; term = term_whole f }

check_whole : (c : CheckItem) (ts rest : List Token) → SpellsCheck c ts rest → IsWholeCheck c
check_whole _ _ _ (check d e f g h w s) = term_whole e

pub rule_whole : {r : RuleItem} {ts rest : List Token} → SpellsRule r ts rest → All IsWholeFormula r.formulas
rule_whole (rule d e f) = one_or_more_each SpellsFormula IsWholeFormula formula_whole f

pub verification_whole : {v : VerifItem} {ts rest : List Token} → SpellsVerification v ts rest → All IsWholeCheck v.checks
verification_whole (verification d e) = one_or_more_each SpellsCheck IsWholeCheck check_whole e
