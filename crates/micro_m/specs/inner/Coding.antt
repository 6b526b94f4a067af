-- The encoding of terms in the logic: one clause for each constructor, and one for all pairs of
-- two.
use Rattle.std.proofs.Common.{◌≡◌, refl, ap, arith}
use Rattle.std.specs.Coded.{Coded}
use base.Stored.{Gv, gnil, gnum, gcons, num}
use Rattle.m_fixed.specs.contracts.amount.Value as value
use Rattle.m_fixed.specs.contracts.operator.Op as op
use Rattle.micro_m.specs.Trees.{TreeOf, lit, cell, pick, apply, chain, TreesOf, none, more, StepsOf, end, step}

abbrev pub head : Gv → Gv
head gnil = gnil
head (gnum n) = gnil
head (gcons a b) = a

abbrev pub tail : Gv → Gv
tail gnil = gnil
tail (gnum n) = gnil
tail (gcons a b) = b

-- given the code of a leaf
module _ {L : Type 0} (leaf : Coded L) where
  abbrev mutual
    pub code : TreeOf L → Gv
    code (lit v) = gcons (gnum 0) (value.the_row.coded.code v)
    code (cell n) = gcons (gnum 1) (leaf.code n)
    code (pick f s a) = gcons (gnum 2) (gcons (gnum f) (gcons (gnum s) (code a)))
    code (apply o as') = gcons (gnum 3) (gcons (op.the_row.coded.code o) (code_all as'))
    code (chain a ss) = gcons (gnum 4) (gcons (code a) (code_along ss))

    pub code_all : TreesOf L → Gv
    code_all none = gnil
    code_all (more a rest) = gcons (code a) (code_all rest)

    pub code_along : StepsOf L → Gv
    code_along end = gnil
    code_along (step o a rest) = gcons (op.the_row.coded.code o) (gcons (code a) (code_along rest))

  mutual
    pub inj : (x y : TreeOf L) → code x ≡ code y → x ≡ y
    inj (lit a) (lit b) p = ap lit (value.the_row.coded.inj a b (ap tail p))
    inj (cell m) (cell n) p = ap cell (leaf.inj m n (ap tail p))
    inj (pick f s a) (pick g t b) p = λ i. pick (ap (λ h. num (head (tail h))) p i) (ap (λ h. num (head (tail (tail h)))) p i)
        (inj a b (ap (λ h. tail (tail (tail h))) p) i)
    inj (apply o a) (apply q b) p = λ i. apply (op.the_row.coded.inj o q (ap (λ g. head (tail g)) p) i) (inj_all a b (ap (λ g. tail (tail g)) p) i)
    inj (chain a r) (chain b s) p = λ i. chain (inj a b (ap (λ g. head (tail g)) p) i) (inj_along r s (ap (λ g. tail (tail g)) p) i)
    inj _ _ p = absurd (omega (arith, ap (λ g. num (head g)) p))

    pub inj_all : (x y : TreesOf L) → code_all x ≡ code_all y → x ≡ y
    inj_all none none p = refl
    inj_all (more a r) (more b s) p = λ i. more (inj a b (ap head p) i) (inj_all r s (ap tail p) i)
    inj_all _ _ p = absurd (cc)

    pub inj_along : (x y : StepsOf L) → code_along x ≡ code_along y → x ≡ y
    inj_along end end p = refl
    inj_along (step o a r) (step q b s) p = λ i. step (op.the_row.coded.inj o q (ap head p) i) (inj a b (ap (λ g. head (tail g)) p) i)
        (inj_along r s (ap (λ g. tail (tail g)) p) i)
    inj_along _ _ p = absurd (cc)

abbrev pub coded_tree : {L : Type 0} → Coded L → Coded (TreeOf L)
coded_tree leaf = record { code = code leaf; inj = inj leaf }
