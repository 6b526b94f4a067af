-- The literals of terms, as their tokens spell them: each is an amount.
use Rattle.std.proofs.Common.{ℕ, zero, suc, List, [], ◌∷◌, Option, sym, subst}
use Rattle.std.specs.List.{AllByRecursion}
use Rattle.m_places.specs.declared.place.Place.{Place}
use Rattle.m_places.specs.declared.limits.TheConstants.{BRACKET_DEPTH}
use Rattle.m_fixed.specs.declared.operator.Op.{Op}
use Rattle.m_fixed.specs.Amounts.{IsAmount}
use Rattle.m_fixed.specs.Laws.{IsValue}
use Rattle.m_fixed.specs.Text.{text_value}
use Rattle.observables.proofs.InputLemmas.{read_amount}
use Rattle.m_lexer.specs.declared.token.Token.{Token}
use Rattle.m_lexer.specs.declared.token.Kind.{Kind}
use Rattle.m_lexer.specs.declared.token.Kind.TheVariants.{Word, Number, Text, Key, Sign}
use Rattle.m_lexer.specs.declared.token.Sign.TheVariants as signs
use Rattle.m_lexer.specs.Tokens.{Spells, word as a_word, key as a_key, number as a_number, text as a_text, sign as a_sign, Lexes}
use Rattle.m_ast.specs.declared.term.Link.{Link}
use Rattle.m_ast.specs.declared.term.Member.{Member}
use Rattle.m_ast.specs.Syntax.{Syntax, lit, named, the_x, cell, apply, chain, among, loop, Terms, no_terms, a_term, Links, no_links, a_link, Members}
use Rattle.m_ast.specs.Syntax.{no_members, a_member}
use Rattle.m_ast.specs.View.{links_of, members_of}
use Rattle.m_lexer.specs.Chains.{First, first, Chain, ended, further}
use Rattle.m_terms.specs.Tokens.{is_sign, joined}
use Rattle.m_terms.specs.Grammar.{addition, multiplication, conjunction, disjunction, link, gathered, Gathered, gather, SpellsPrim, number, word, own, read}
use Rattle.m_terms.specs.Grammar.{brackets, either, only, called, called_two, looped, SpellsFactor, plain, minus, SpellsProduct, SpellsSum, SpellsSigned}
use Rattle.m_terms.specs.Grammar.{positive, negative, SpellsMember, amount, name, range, SpellsMembers, SpellsRelation, alone, compared, inside, outside}
use Rattle.m_terms.specs.Grammar.{SpellsNegation, affirmed, negated, SpellsConjunction, SpellsExpr, SpellsInner}
use Rattle.m_terms.specs.Terms.{SpellsTerm}
use Rattle.m_terms.proofs.Passes.{Behind}
use Rattle.m_terms.proofs.HeaderLaws.{header_passes}
use Rattle.m_compile.proofs.words.Tokens.{EachKind, lexed_each, behind_each}

-- ---- terms

abbrev mutual
  -- each literal of a term is a value of amounts
  pub SaysAmounts : Syntax → Type 0
  SaysAmounts (lit v) = IsValue v
  SaysAmounts (named n p) = Unit {0}
  SaysAmounts (the_x p) = Unit {0}
  SaysAmounts (cell n index p) = SaysAmounts index
  SaysAmounts (apply op all) = TermsSayAmounts all
  SaysAmounts (chain a all) = SaysAmounts a × LinksSayAmounts all
  SaysAmounts (among other a all) = SaysAmounts a × MembersSayAmounts all
  SaysAmounts (loop h a) = SaysAmounts a

  pub TermsSayAmounts : Terms → Type 0
  TermsSayAmounts no_terms = Unit {0}
  TermsSayAmounts (a_term a rest) = SaysAmounts a × TermsSayAmounts rest

  pub LinksSayAmounts : Links → Type 0
  LinksSayAmounts no_links = Unit {0}
  LinksSayAmounts (a_link op a rest) = SaysAmounts a × LinksSayAmounts rest

  pub MembersSayAmounts : Members → Type 0
  MembersSayAmounts no_members = Unit {0}
  MembersSayAmounts (a_member low high rest) = SaysAmounts low × SaysAmounts high × MembersSayAmounts rest

-- ---- tokens

-- a number is an amount
abbrev pub HasAmount : Kind → Type 0
HasAmount (Word w) = Unit {0}
HasAmount (Number z n) = IsAmount z
HasAmount (Text bytes) = Unit {0}
HasAmount (Key k) = Unit {0}
HasAmount (Sign s) = Unit {0}

abbrev pub HaveAmount : List Token → Type 0
HaveAmount = EachKind HasAmount

spelled_amount : (t : List ℕ) (kind : Kind) → Spells t kind → HasAmount kind
spelled_amount _ _ (a_word w f) = tt
spelled_amount _ _ (a_key w e) = tt
spelled_amount _ _ (a_number {t = t} {z = z} n e) = read_amount (text_value t) z e
spelled_amount _ _ (a_text q) = tt
spelled_amount _ _ (a_sign e) = tt

pub lexed_amounts : {p : Place} {bytes : List ℕ} {tokens : List Token} → Lexes p bytes tokens → HaveAmount tokens
lexed_amounts l = lexed_each HasAmount spelled_amount l

pub left_amounts : {ts rest : List Token} → Behind rest ts → HaveAmount ts → HaveAmount rest
left_amounts b a = behind_each HasAmount b a

-- A form spelled by tokens whose numbers are amounts has amounts, and so have the remaining tokens.
abbrev pub Keeps : {A : Type 0} → (A → Type 0) → (A → List Token → List Token → Type 0) → Type 0
Keeps {A} Good R = (x : A) (ts rest : List Token) → R x ts rest → HaveAmount ts → Good x × HaveAmount rest

pub first_left : {B : Type 0} {table : Token → Option B} {b : B} {ts rest : List Token} → First table b ts rest → HaveAmount ts → HaveAmount rest
first_left (first e) a = a.1

-- ---- repetitions

chain_keeps : {A B X : Type 0} (opens : Token → Option B) (made : B → A → X) (R : A → List Token → List Token → Type 0) (Good : A → Type 0) (Fine : X → Type 0)
    → Keeps Good R → ((b : B) (x : A) → Good x → Fine (made b x))
    → {xs : List X} {ts rest : List Token} → Chain opens made R xs ts rest → HaveAmount ts → AllByRecursion Fine xs × HaveAmount rest
chain_keeps opens made R Good Fine keeps fine ended a = (tt, a)
chain_keeps opens made R Good Fine keeps fine (further {b = b} {x = x} o d c) a =
    let k = keeps _ _ _ d a.1 in
    let m = chain_keeps opens made R Good Fine keeps fine c k.1 in
    ((fine b x k.0, m.0), m.1)

abbrev LinkSays : Link → Type 0
LinkSays l = SaysAmounts l.term

links_mean : (os : List Link) → AllByRecursion LinkSays os → LinksSayAmounts (links_of os)
links_mean [] h = tt
links_mean (o ∷ os) h = (h.0, links_mean os h.1)

gathered_meaning : (t : Syntax) (os : List Link) → SaysAmounts t → AllByRecursion LinkSays os → SaysAmounts (gathered t os)
gathered_meaning t [] h k = h
gathered_meaning t (o ∷ os) h k = (h, links_mean (o ∷ os) k)

gathered_keeps : (operator : Token → Option Op) (R : Syntax → List Token → List Token → Type 0) → Keeps SaysAmounts R → Keeps SaysAmounts (Gathered operator R)
gathered_keeps operator R keeps _ _ _ (gather {t = t} {os = os} d c e) a =
    let k = keeps _ _ _ d a in
    let m = chain_keeps operator link R SaysAmounts LinkSays keeps (λ op x h. h) c k.1 in
    (subst SaysAmounts (sym e) (gathered_meaning t os k.0 m.0), m.1)

-- ---- members

abbrev MemberSays : Member → Type 0
MemberSays m = SaysAmounts m.low × SaysAmounts m.high

members_mean : (ms : List Member) → AllByRecursion MemberSays ms → MembersSayAmounts (members_of ms)
members_mean [] h = tt
members_mean (m ∷ ms) h = (h.0.0, h.0.1, members_mean ms h.1)

signed_keeps : Keeps SaysAmounts SpellsSigned
signed_keeps _ _ _ positive a = (a.0, a.1)
signed_keeps _ _ _ negative a = ((a.1.0, tt), a.1.1)

member_keeps : Keeps MemberSays SpellsMember
member_keeps _ _ _ (amount d) a = let k = signed_keeps _ _ _ d a in ((k.0, k.0), k.1)
member_keeps _ _ _ name a = ((tt, tt), a.1)
member_keeps _ _ _ (range d f) a =
    let k = signed_keeps _ _ _ d a in
    let m = signed_keeps _ _ _ f k.1.1 in
    ((k.0, m.0), m.1)

members_keep : Keeps (AllByRecursion MemberSays) SpellsMembers
members_keep _ _ _ (joined d c) a =
    let k = member_keeps _ _ _ d a in
    let m = chain_keeps (is_sign signs.Comma) (λ _ x. x) SpellsMember MemberSays MemberSays member_keeps (λ b x h. h) c k.1 in
    ((k.0, m.0), m.1)

-- ---- each level of precedence

module _ (E : Syntax → List Token → List Token → Type 0) (keeps : Keeps SaysAmounts E) where
  prim_keeps : Keeps SaysAmounts (SpellsPrim E)
  prim_keeps _ _ _ number a = (a.0, a.1)
  prim_keeps _ _ _ word a = (tt, a.1)
  prim_keeps _ _ _ own a = (tt, a.1)
  prim_keeps _ _ _ (read d) a = let k = keeps _ _ _ d a.1.1 in (k.0, k.1.1)
  prim_keeps _ _ _ (brackets d) a = let k = keeps _ _ _ d a.1 in (k.0, k.1.1)
  prim_keeps _ _ _ (either d f g) a =
      let k = keeps _ _ _ d a.1 in
      let m = keeps _ _ _ f k.1.1 in
      let n = keeps _ _ _ g m.1.1 in
      ((k.0, (m.0, (n.0, tt))), n.1.1)
  prim_keeps _ _ _ (only d f) a =
      let k = keeps _ _ _ d a.1 in
      let m = keeps _ _ _ f k.1.1 in
      ((k.0, (m.0, (tt, tt))), m.1.1)
  prim_keeps _ _ _ (called i d) a = let k = keeps _ _ _ d a.1.1 in ((k.0, tt), k.1.1)
  prim_keeps _ _ _ (called_two i d f) a =
      let k = keeps _ _ _ d a.1.1 in
      let m = keeps _ _ _ f k.1.1 in
      ((k.0, (m.0, tt)), m.1.1)
  prim_keeps _ _ _ (looped h d) a =
      let b = left_amounts (header_passes _ _ _ h) a.1.1 in
      let k = keeps _ _ _ d b.1 in
      (k.0, k.1.1)

  factor_keeps : Keeps SaysAmounts (SpellsFactor E)
  factor_keeps _ _ _ (plain d) a = prim_keeps _ _ _ d a
  factor_keeps _ _ _ (minus d) a = let k = prim_keeps _ _ _ d a.1 in ((k.0, tt), k.1)

  product_keeps : Keeps SaysAmounts (SpellsProduct E)
  product_keeps = gathered_keeps multiplication (SpellsFactor E) factor_keeps

  sum_keeps : Keeps SaysAmounts (SpellsSum E)
  sum_keeps = gathered_keeps addition (SpellsProduct E) product_keeps

  relation_keeps : Keeps SaysAmounts (SpellsRelation E)
  relation_keeps _ _ _ (alone d) a = sum_keeps _ _ _ d a
  relation_keeps _ _ _ (compared d i f) a =
      let k = sum_keeps _ _ _ d a in
      let m = sum_keeps _ _ _ f k.1.1 in
      ((k.0, (m.0, tt)), m.1)
  relation_keeps _ _ _ (inside {ms = ms} d l) a =
      let k = sum_keeps _ _ _ d a in
      let m = members_keep _ _ _ l k.1.1.1 in
      ((k.0, members_mean ms m.0), m.1.1)
  relation_keeps _ _ _ (outside {ms = ms} d l) a =
      let k = sum_keeps _ _ _ d a in
      let m = members_keep _ _ _ l k.1.1.1.1 in
      ((k.0, members_mean ms m.0), m.1.1)

  negation_keeps : Keeps SaysAmounts (SpellsNegation E)
  negation_keeps _ _ _ (affirmed d) a = relation_keeps _ _ _ d a
  negation_keeps _ _ _ (negated d) a = let k = relation_keeps _ _ _ d a.1 in ((k.0, tt), k.1)

  conjunction_keeps : Keeps SaysAmounts (SpellsConjunction E)
  conjunction_keeps = gathered_keeps conjunction (SpellsNegation E) negation_keeps

  expr_keeps : Keeps SaysAmounts (SpellsExpr E)
  expr_keeps = gathered_keeps disjunction (SpellsConjunction E) conjunction_keeps

inner_keeps : (d : ℕ) → Keeps SaysAmounts (SpellsInner d)
unfolding SpellsInner
inner_keeps zero = λ x ts rest h a. absurd h
inner_keeps (suc d) = expr_keeps (SpellsInner d) (inner_keeps d)

pub term_keeps : Keeps SaysAmounts SpellsTerm
term_keeps = expr_keeps (SpellsInner BRACKET_DEPTH) (inner_keeps BRACKET_DEPTH)
