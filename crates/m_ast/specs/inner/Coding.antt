-- The logic's encoding of terms, which is injective: one clause per constructor, and one per pair
-- of two.
use Rattle.std.proofs.Common.{◌≡◌, refl, ap, arith}
use Rattle.std.specs.Coded.{Coded, coded_ℕ, coded_bool, coded_list}
use base.Stored.{Gv, gnil, gnum, gcons, num}
use Rattle.m_fixed.specs.contracts.amount.Value as values
use Rattle.m_fixed.specs.contracts.operator.Op as operators
use Rattle.m_places.specs.contracts.place.Place as places
use Rattle.m_ast.specs.contracts.header.Header as headers
use Rattle.m_ast.specs.Syntax.{Syntax, lit, named, the_x, cell, apply, chain, among, loop, Terms, no_terms, a_term, Links, no_links, a_link, Members}
use Rattle.m_ast.specs.Syntax.{no_members, a_member}

abbrev head : Gv → Gv
head gnil = gnil
head (gnum n) = gnil
head (gcons a b) = a

abbrev tail : Gv → Gv
tail gnil = gnil
tail (gnum n) = gnil
tail (gcons a b) = b

abbrev mutual
  pub code : Syntax → Gv
  code (lit v) = gcons (gnum 0) (values.the_row.coded.code v)
  code (named n p) = gcons (gnum 1) (gcons ((coded_list coded_ℕ).code n) (places.the_row.coded.code p))
  code (the_x p) = gcons (gnum 2) (places.the_row.coded.code p)
  code (cell n a p) = gcons (gnum 3) (gcons ((coded_list coded_ℕ).code n) (gcons (code a) (places.the_row.coded.code p)))
  code (apply op all) = gcons (gnum 4) (gcons (operators.the_row.coded.code op) (code_terms all))
  code (chain a all) = gcons (gnum 5) (gcons (code a) (code_links all))
  code (among negated a all) = gcons (gnum 6) (gcons (coded_bool.code negated) (gcons (code a) (code_members all)))
  code (loop h a) = gcons (gnum 7) (gcons (headers.the_row.coded.code h) (code a))

  pub code_terms : Terms → Gv
  code_terms no_terms = gnil
  code_terms (a_term a rest) = gcons (code a) (code_terms rest)

  pub code_links : Links → Gv
  code_links no_links = gnil
  code_links (a_link op a rest) = gcons (operators.the_row.coded.code op) (gcons (code a) (code_links rest))

  pub code_members : Members → Gv
  code_members no_members = gnil
  code_members (a_member a b rest) = gcons (code a) (gcons (code b) (code_members rest))

mutual
  pub inj : (x y : Syntax) → code x ≡ code y → x ≡ y
  inj (lit a) (lit b) p = ap lit (values.the_row.coded.inj a b (ap tail p))
  inj (named m a) (named n b) p = λ i. named ((coded_list coded_ℕ).inj m n (ap (λ g. head (tail g)) p) i)
      (places.the_row.coded.inj a b (ap (λ g. tail (tail g)) p) i)
  inj (the_x a) (the_x b) p = ap the_x (places.the_row.coded.inj a b (ap tail p))
  inj (cell m a c) (cell n b d) p = λ i. cell ((coded_list coded_ℕ).inj m n (ap (λ g. head (tail g)) p) i) (inj a b (ap (λ g. head (tail (tail g))) p) i)
      (places.the_row.coded.inj c d (ap (λ g. tail (tail (tail g))) p) i)
  inj (apply f a) (apply g b) p = λ i. apply (operators.the_row.coded.inj f g (ap (λ g. head (tail g)) p) i) (inj_terms a b (ap (λ g. tail (tail g)) p) i)
  inj (chain a r) (chain b s) p = λ i. chain (inj a b (ap (λ g. head (tail g)) p) i) (inj_links r s (ap (λ g. tail (tail g)) p) i)
  inj (among m a r) (among n b s) p = λ i. among (coded_bool.inj m n (ap (λ g. head (tail g)) p) i) (inj a b (ap (λ g. head (tail (tail g))) p) i)
      (inj_members r s (ap (λ g. tail (tail (tail g))) p) i)
  inj (loop h a) (loop k b) p = λ i. loop (headers.the_row.coded.inj h k (ap (λ g. head (tail g)) p) i) (inj a b (ap (λ g. tail (tail g)) p) i)
  inj _ _ p = absurd (omega (arith, ap (λ g. num (head g)) p))

  pub inj_terms : (x y : Terms) → code_terms x ≡ code_terms y → x ≡ y
  inj_terms no_terms no_terms p = refl
  inj_terms (a_term a r) (a_term b s) p = λ i. a_term (inj a b (ap head p) i) (inj_terms r s (ap tail p) i)
  inj_terms _ _ p = absurd (cc)

  pub inj_links : (x y : Links) → code_links x ≡ code_links y → x ≡ y
  inj_links no_links no_links p = refl
  inj_links (a_link f a r) (a_link g b s) p = λ i. a_link (operators.the_row.coded.inj f g (ap head p) i) (inj a b (ap (λ g. head (tail g)) p) i)
      (inj_links r s (ap (λ g. tail (tail g)) p) i)
  inj_links _ _ p = absurd (cc)

  pub inj_members : (x y : Members) → code_members x ≡ code_members y → x ≡ y
  inj_members no_members no_members p = refl
  inj_members (a_member a b r) (a_member c d s) p = λ i. a_member (inj a c (ap head p) i) (inj b d (ap (λ g. head (tail g)) p) i)
      (inj_members r s (ap (λ g. tail (tail g)) p) i)
  inj_members _ _ p = absurd (cc)

abbrev pub coded_syntax : Coded Syntax
coded_syntax = record { code = code; inj = inj }
