-- The logic's encoding of a command: one clause for each constructor, and one for all pairs of
-- distinct ones.
use Rattle.std.proofs.Common.{◌≡◌, refl, ap, arith}
use Rattle.std.specs.Coded.{Coded, coded_ℕ, coded_list}
use base.Stored.{Gv, gnil, gnum, gcons, num}
use Rattle.mpp_parser.specs.contracts.term.CellName as cells
use Rattle.mpp_parser.specs.contracts.term.Kind as kinds
use Rattle.mpp_parser.specs.inner.TermCoding.{head, tail, coded_term}
use Rattle.mpp_parser.specs.Commands.{Act, set, del, when, partition, call, Acts, no_acts, an_act}

abbrev mutual
  pub code : Act → Gv
  code (set n c t) = gcons (gnum 0) (gcons (gnum n) (gcons (cells.the_row.coded.code c) (coded_term.code t)))
  code (del n c) = gcons (gnum 1) (gcons (gnum n) (cells.the_row.coded.code c))
  code (when n t a b) = gcons (gnum 2) (gcons (gnum n) (gcons (coded_term.code t) (gcons (code_all a) (code_all b))))
  code (partition n k a) = gcons (gnum 3) (gcons (gnum n) (gcons (kinds.the_row.coded.code k) (code_all a)))
  code (call n cs f) = gcons (gnum 4) (gcons (gnum n) (gcons ((coded_list cells.the_row.coded).code cs) ((coded_list coded_ℕ).code f)))

  pub code_all : Acts → Gv
  code_all no_acts = gnil
  code_all (an_act a rest) = gcons (code a) (code_all rest)

mutual
  pub inj : (x y : Act) → code x ≡ code y → x ≡ y
  inj (set m c t) (set n d u) p = λ i. set (ap (λ g. num (head (tail g))) p i) (cells.the_row.coded.inj c d (ap (λ g. head (tail (tail g))) p) i)
      (coded_term.inj t u (ap (λ g. tail (tail (tail g))) p) i)
  inj (del m c) (del n d) p = λ i. del (ap (λ g. num (head (tail g))) p i) (cells.the_row.coded.inj c d (ap (λ g. tail (tail g)) p) i)
  inj (when m t a b) (when n u c d) p = λ i. when (ap (λ g. num (head (tail g))) p i) (coded_term.inj t u (ap (λ g. head (tail (tail g))) p) i)
      (inj_all a c (ap (λ g. head (tail (tail (tail g)))) p) i) (inj_all b d (ap (λ g. tail (tail (tail (tail g)))) p) i)
  inj (partition m k a) (partition n l b) p = λ i. partition (ap (λ g. num (head (tail g))) p i)
      (kinds.the_row.coded.inj k l (ap (λ g. head (tail (tail g))) p) i) (inj_all a b (ap (λ g. tail (tail (tail g))) p) i)
  inj (call m cs f) (call n ds g) p = λ i. call (ap (λ g. num (head (tail g))) p i)
      ((coded_list cells.the_row.coded).inj cs ds (ap (λ g. head (tail (tail g))) p) i) ((coded_list coded_ℕ).inj f g (ap (λ g. tail (tail (tail g))) p) i)
  inj _ _ p = absurd (omega (arith, ap (λ g. num (head g)) p))

  pub inj_all : (x y : Acts) → code_all x ≡ code_all y → x ≡ y
  inj_all no_acts no_acts p = refl
  inj_all (an_act a r) (an_act b s) p = λ i. an_act (inj a b (ap head p) i) (inj_all r s (ap tail p) i)
  inj_all _ _ p = absurd (cc)

abbrev pub coded_act : Coded Act
coded_act = record { code = code; inj = inj }
