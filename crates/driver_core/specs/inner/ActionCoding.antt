-- The logic's encoding of a command: one clause for each constructor, and one for all pairs of
-- distinct ones.
use Rattle.std.proofs.Common.{◌≡◌, refl, ap, arith}
use Rattle.std.specs.Coded.{Coded, coded_ℕ, coded_list}
use base.Stored.{Gv, gnil, gnum, gcons, num}
use Rattle.micro_m.specs.inner.Coding.{head, tail, coded_tree}
use Rattle.driver_core.specs.Actions.{Action, assign, clear, branch, partition, call, solve, Block, no_actions, an_action}

abbrev mutual
  pub code : Action → Gv
  code (assign n c t) = gcons (gnum 0) (gcons (gnum n) (gcons (gnum c) ((coded_tree coded_ℕ).code t)))
  code (clear n c) = gcons (gnum 1) (gcons (gnum n) (gnum c))
  code (branch n t a b) = gcons (gnum 2) (gcons (gnum n) (gcons ((coded_tree coded_ℕ).code t) (gcons (code_all a) (code_all b))))
  code (partition n cs a) = gcons (gnum 3) (gcons (gnum n) (gcons ((coded_list coded_ℕ).code cs) (code_all a)))
  code (call n k cs f) = gcons (gnum 4) (gcons (gnum n) (gcons (gnum f) (gcons (gnum k) ((coded_list coded_ℕ).code cs))))
  code (solve n k cs) = gcons (gnum 5) (gcons (gnum n) (gcons (gnum k) ((coded_list coded_ℕ).code cs)))

  pub code_all : Block → Gv
  code_all no_actions = gnil
  code_all (an_action a rest) = gcons (code a) (code_all rest)

mutual
  pub inj : (x y : Action) → code x ≡ code y → x ≡ y
  inj (assign m c t) (assign n d u) p = λ i. assign (ap (λ g. num (head (tail g))) p i) (ap (λ g. num (head (tail (tail g)))) p i)
      ((coded_tree coded_ℕ).inj t u (ap (λ g. tail (tail (tail g))) p) i)
  inj (clear m c) (clear n d) p = λ i. clear (ap (λ g. num (head (tail g))) p i) (ap (λ g. num (tail (tail g))) p i)
  inj (branch m t a b) (branch n u c d) p = λ i. branch (ap (λ g. num (head (tail g))) p i) ((coded_tree coded_ℕ).inj t u (ap (λ g. head (tail (tail g))) p) i)
      (inj_all a c (ap (λ g. head (tail (tail (tail g)))) p) i) (inj_all b d (ap (λ g. tail (tail (tail (tail g)))) p) i)
  inj (partition m xs a) (partition n ys b) p = λ i. partition (ap (λ g. num (head (tail g))) p i)
      ((coded_list coded_ℕ).inj xs ys (ap (λ g. head (tail (tail g))) p) i) (inj_all a b (ap (λ g. tail (tail (tail g))) p) i)
  inj (call m j xs f) (call n k ys g) p = λ i. call (ap (λ g. num (head (tail g))) p i) (ap (λ g. num (head (tail (tail (tail g))))) p i)
      ((coded_list coded_ℕ).inj xs ys (ap (λ g. tail (tail (tail (tail g)))) p) i) (ap (λ g. num (head (tail (tail g)))) p i)
  inj (solve m j xs) (solve n k ys) p = λ i. solve (ap (λ g. num (head (tail g))) p i) (ap (λ g. num (head (tail (tail g)))) p i)
      ((coded_list coded_ℕ).inj xs ys (ap (λ g. tail (tail (tail g))) p) i)
  inj _ _ p = absurd (omega (arith, ap (λ g. num (head g)) p))

  pub inj_all : (x y : Block) → code_all x ≡ code_all y → x ≡ y
  inj_all no_actions no_actions p = refl
  inj_all (an_action a r) (an_action b s) p = λ i. an_action (inj a b (ap head p) i) (inj_all r s (ap tail p) i)
  inj_all _ _ p = absurd (cc)

abbrev pub coded_action : Coded Action
coded_action = record { code = code; inj = inj }
