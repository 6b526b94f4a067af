-- The logic's encoding of a term: one clause for each constructor, and one for all pairs of
-- distinct ones.
use Rattle.std.proofs.Common.{◌≡◌, refl, ap, arith}
use Rattle.std.specs.Coded.{Coded}
use base.Stored.{Gv, gnil, gnum, gcons, num}
use Rattle.m_fixed.specs.contracts.amount.Value as values
use Rattle.m_fixed.specs.contracts.operator.Op as operators
use Rattle.mpp_parser.specs.contracts.term.CellName as cells
use Rattle.mpp_parser.specs.contracts.term.Kind as kinds
use Rattle.mpp_parser.specs.Trees.{Term, lit, named, apply, chain, exists, Terms, no_terms, a_term, Links, no_links, a_link}

abbrev pub head : Gv → Gv
head gnil = gnil
head (gnum n) = gnil
head (gcons a b) = a

abbrev pub tail : Gv → Gv
tail gnil = gnil
tail (gnum n) = gnil
tail (gcons a b) = b

abbrev mutual
  pub code : Term → Gv
  code (lit v) = gcons (gnum 0) (values.the_row.coded.code v)
  code (named c) = gcons (gnum 1) (cells.the_row.coded.code c)
  code (apply op all) = gcons (gnum 2) (gcons (operators.the_row.coded.code op) (code_terms all))
  code (chain a all) = gcons (gnum 3) (gcons (code a) (code_links all))
  code (exists k) = gcons (gnum 4) (kinds.the_row.coded.code k)

  pub code_terms : Terms → Gv
  code_terms no_terms = gnil
  code_terms (a_term a rest) = gcons (code a) (code_terms rest)

  pub code_links : Links → Gv
  code_links no_links = gnil
  code_links (a_link op a rest) = gcons (operators.the_row.coded.code op) (gcons (code a) (code_links rest))

mutual
  pub inj : (x y : Term) → code x ≡ code y → x ≡ y
  inj (lit a) (lit b) p = ap lit (values.the_row.coded.inj a b (ap tail p))
  inj (named a) (named b) p = ap named (cells.the_row.coded.inj a b (ap tail p))
  inj (apply f a) (apply g b) p = λ i. apply (operators.the_row.coded.inj f g (ap (λ g. head (tail g)) p) i) (inj_terms a b (ap (λ g. tail (tail g)) p) i)
  inj (chain a r) (chain b s) p = λ i. chain (inj a b (ap (λ g. head (tail g)) p) i) (inj_links r s (ap (λ g. tail (tail g)) p) i)
  inj (exists a) (exists b) p = ap exists (kinds.the_row.coded.inj a b (ap tail p))
  inj _ _ p = absurd (omega (arith, ap (λ g. num (head g)) p))

  pub inj_terms : (x y : Terms) → code_terms x ≡ code_terms y → x ≡ y
  inj_terms no_terms no_terms p = refl
  inj_terms (a_term a r) (a_term b s) p = λ i. a_term (inj a b (ap head p) i) (inj_terms r s (ap tail p) i)
  inj_terms _ _ p = absurd (cc)

  pub inj_links : (x y : Links) → code_links x ≡ code_links y → x ≡ y
  inj_links no_links no_links p = refl
  inj_links (a_link f a r) (a_link g b s) p = λ i. a_link (operators.the_row.coded.inj f g (ap head p) i) (inj a b (ap (λ g. head (tail g)) p) i)
      (inj_links r s (ap (λ g. tail (tail g)) p) i)
  inj_links _ _ p = absurd (cc)

abbrev pub coded_term : Coded Term
coded_term = record { code = code; inj = inj }
