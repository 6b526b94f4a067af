-- Tables read at an index: the choices for all cells give the value of the cell that the index
-- selects.
use Rattle.std.proofs.Common.{◌≡◌, ℕ, zero, suc, ◌+◌, ◌*◌, ◌/◌, ◌<◌, ◌≤◌, Bool, true, false, cond, ltb, leb, List, get_or, ⊎_elim, refl, sym, ap, ◌∙◌, arith, ℤ}
use Rattle.std.proofs.Common.{pos, negsuc, subst}
use Rattle.std.specs.Prelude.{neg_ℤ, int_le, unsigned_abs}
use Rattle.std.specs.Ordering.{int_eq}
use Rattle.std.proofs.lemmas.Bool.{cases_lt}
use Rattle.std.proofs.lemmas.Bool.Decides.{nat_tests, Decides-int_eq}
use Rattle.m_fixed.specs.declared.amount.Value.{Value}
use Rattle.m_fixed.specs.declared.amount.Value.TheVariants.{Undef, Num, Over}
use Rattle.m_fixed.specs.declared.operator.Op.TheVariants.{At, Le, Choose}
use Rattle.m_fixed.specs.Operators.{op_value, chosen, bounded, truth, cut}
use Rattle.micro_m.specs.declared.table.Picked.TheVariants.{Cell, Fixed}
use Rattle.micro_m.specs.Values.{Environment, environment, picked, picked_at, picked_value}
use Rattle.flat_code.specs.declared.program.Node.TheVariants.{Lit, Do}
use Rattle.mpp_inline.specs.declared.builder.Builder.{Builder}
use Rattle.mpp_inline.specs.inner.Growth.{IsUsable, at, denoted, Sane, Known, Pushed, Along, Gives}
use Rattle.mpp_inline.specs.inner.Tables.{outside, among_cells}
use Rattle.mpp_inline.proofs.UsableLemmas.{usable-on}
use Rattle.mpp_inline.proofs.GrowthLemmas.{longer-then, grows-then, known-get, denoted-get}
use Rattle.mpp_inline.proofs.CheckGrowth.{gives-lit}
use Rattle.mpp_inline.proofs.TermLemmas.{do-step}
use Rattle.mpp_inline.proofs.StageLemmas.{choose-value}

-- ---- the operators

at-undef : (w : ℤ) → op_value At Undef (Num w) Undef ≡ Undef
unfolding op_value
at-undef w = refl

at-over : (w : ℤ) → op_value At Over (Num w) Undef ≡ Over
unfolding op_value
at-over w = refl

le-undef : (w : ℤ) → op_value Le Undef (Num w) Undef ≡ Undef
unfolding op_value
le-undef w = refl

le-over : (w : ℤ) → op_value Le Over (Num w) Undef ≡ Over
unfolding op_value
le-over w = refl

bounded-truth : (b : Bool) → bounded (truth b) ≡ Num (truth b)
bounded-truth true = refl
bounded-truth false = refl

at-num : (z w : ℤ) → op_value At (Num z) (Num w) Undef ≡ Num (truth (int_eq (cut z) (cut w)))
unfolding op_value
at-num z w = bounded-truth (int_eq (cut z) (cut w))

le-num : (z w : ℤ) → op_value Le (Num z) (Num w) Undef ≡ Num (truth (int_le z w))
unfolding op_value
le-num z w = bounded-truth (int_le z w)

chosen-truth : (b : Bool) (x y : Value) → chosen (Num (truth b)) x y ≡ cond b x y
chosen-truth true x y = refl
chosen-truth false x y = refl

cut-place : (n : ℕ) → cut (pos (n * 1000000)) ≡ pos n
cut-place n = ap pos (omega arith)

-- ---- the cells of a table

-- the same, by the index in whole units
abbrev among : Environment → ℕ → ℤ → ℕ → Value → Value
among values first q zero other = other
among values first q (suc n) other = among values first q n (cond (int_eq q (pos n)) (values (first + n)) other)

among-undef : (values : Environment) (first n : ℕ) → among_cells values first Undef n Undef ≡ Undef
among-undef values first zero = refl
among-undef values first (suc n) = ap (λ v. among_cells values first Undef n (chosen v (values (first + n)) Undef)) (at-undef (pos (n * 1000000)))
    ∙ among-undef values first n

among-over : (values : Environment) (first n : ℕ) → among_cells values first Over n Over ≡ Over
among-over values first zero = refl
among-over values first (suc n) = ap (λ v. among_cells values first Over n (chosen v (values (first + n)) Over)) (at-over (pos (n * 1000000)))
    ∙ among-over values first n

among-num : (values : Environment) (first n : ℕ) (z : ℤ) (other : Value) → among_cells values first (Num z) n other ≡ among values first (cut z) n other
among-num values first zero z other = refl
among-num values first (suc n) z other =
    ap (among_cells values first (Num z) n)
    (ap (λ v. chosen v (values (first + n)) other) (at-num z (pos (n * 1000000)) ∙ ap (λ w. Num (truth (int_eq (cut z) w))) (cut-place n))
    ∙ chosen-truth (int_eq (cut z) (pos n)) (values (first + n)) other)
    ∙ among-num values first n z _

among-below : (values : Environment) (first n k : ℕ) (other : Value) → among values first (negsuc k) n other ≡ other
among-below values first zero k other = refl
among-below values first (suc n) k other = among-below values first n k other

ltb-of : (k n : ℕ) → k < n → ltb k n ≡ true
ltb-of k n h = grind (arith, nat_tests)

ltb-not : (k n : ℕ) → n ≤ k → ltb k n ≡ false
ltb-not k n h = grind (arith, nat_tests)

pos-apart : (k n : ℕ) → pos k ≡ pos n → k ≡ n
pos-apart k n e = ap unsigned_abs e

same-place : (k n : ℕ) → k ≡ n → int_eq (pos k) (pos n) ≡ true
same-place k n h = (Decides-int_eq (pos k) (pos n)).1 (ap pos h)

other-place : (k n : ℕ) → n < k → int_eq (pos k) (pos n) ≡ false
other-place k n h = by (int_eq (pos k) (pos n)) refl
  where
    by : (t : Bool) → int_eq (pos k) (pos n) ≡ t → int_eq (pos k) (pos n) ≡ false
    by true e = let same : k ≡ n = pos-apart k n ((Decides-int_eq (pos k) (pos n)).0 e) in absurd (omega (arith, h, same))
    by false e = e

among-place : (values : Environment) (first n k : ℕ) (other : Value) → among values first (pos k) n other ≡ cond (ltb k n) (values (first + k)) other
among-place values first zero k other = sym (ap (λ b. cond b (values (first + k)) other) (ltb-not k 0 (omega arith)))
among-place values first (suc n) k other =
    among-place values first n k (cond (int_eq (pos k) (pos n)) (values (first + n)) other)
    ∙ ⊎_elim
    (λ (h : k < n).
    ap (λ b. cond b (values (first + k)) (cond (int_eq (pos k) (pos n)) (values (first + n)) other)) (ltb-of k n h)
    ∙ sym (ap (λ b. cond b (values (first + k)) other) (ltb-of k (suc n) (omega (arith, h)))))
    (λ (h : n ≤ k).
    ap (λ b. cond b (values (first + k)) (cond (int_eq (pos k) (pos n)) (values (first + n)) other)) (ltb-not k n h)
    ∙ ⊎_elim
    (λ (l : n < k).
    ap (λ b. cond b (values (first + n)) other) (other-place k n l)
    ∙ sym (ap (λ b. cond b (values (first + k)) other) (ltb-not k (suc n) (omega (arith, l)))))
    (λ (l : k ≤ n).
    let same : k ≡ n = omega (arith, h, l) in
    ap (λ b. cond b (values (first + n)) other) (same-place k n same)
    ∙ ap (λ j. values (first + j)) (sym same)
    ∙ sym (ap (λ b. cond b (values (first + k)) other) (ltb-of k (suc n) (omega (arith, l)))))
    (cases_lt n k))
    (cases_lt k n)

outside-num : (z : ℤ) → outside (Num z) ≡ cond (int_le z (negsuc 999999)) (Num (pos 0)) Undef
outside-num z = ap (λ v. chosen v (Num (pos 0)) Undef) (le-num z (negsuc 999999)) ∙ chosen-truth (int_le z (negsuc 999999)) (Num (pos 0)) Undef

picked-place : (values : Environment) (first size k : ℕ) → picked_value values (picked_at first size (pos k)) ≡ cond (ltb k size) (values (first + k)) Undef
picked-place values first size k = elim (ltb k size) as (λ b. picked_value values (cond b (Cell (first + k)) (Fixed Undef)) ≡ cond b (values (first + k)) Undef)
    [ true ↦ refl | false ↦ refl ]

leb-of : (m : ℕ) → 999999 ≤ m → leb 999999 m ≡ true
leb-of m h = grind (arith, nat_tests)

leb-not : (m : ℕ) → m < 999999 → leb 999999 m ≡ false
leb-not m h = grind (arith, nat_tests)

-- a negative index: above -1 it selects the first cell, otherwise none
negative : (values : Environment) (first size m d : ℕ) → suc m / 1000000 ≡ d → among values first (neg_ℤ (pos d)) size (cond (leb 999999 m) (Num (pos 0)) Undef)
    ≡ picked_value values (picked_at first size (neg_ℤ (pos d)))
negative values first size m zero e =
    ap (λ b. among values first (pos 0) size (cond b (Num (pos 0)) Undef)) (leb-not m (omega (arith, e)))
    ∙ among-place values first size 0 Undef ∙ sym (picked-place values first size 0)
negative values first size m (suc j) e =
    ap (λ b. among values first (negsuc j) size (cond b (Num (pos 0)) Undef)) (leb-of m (omega (arith, e)))
    ∙ among-below values first size j (Num (pos 0))

pub table-value : (values : Environment) (first size : ℕ) (v : Value) → among_cells values first v size (outside v) ≡ picked_value values (picked first size v)
table-value values first size Undef = ap (λ v. among_cells values first Undef size (chosen v (Num (pos 0)) Undef)) (le-undef (negsuc 999999))
    ∙ among-undef values first size
table-value values first size Over = ap (λ v. among_cells values first Over size (chosen v (Num (pos 0)) Undef)) (le-over (negsuc 999999))
    ∙ among-over values first size
table-value values first size (Num (pos m)) =
    ap (among_cells values first (Num (pos m)) size) (outside-num (pos m))
    ∙ among-num values first size (pos m) Undef
    ∙ among-place values first size (m / 1000000) Undef ∙ sym (picked-place values first size (m / 1000000))
table-value values first size (Num (negsuc m)) =
    ap (among_cells values first (Num (negsuc m)) size) (outside-num (negsuc m))
    ∙ among-num values first size (negsuc m) (cond (leb 999999 m) (Num (pos 0)) Undef)
    ∙ negative values first size m (suc m / 1000000) refl

-- ---- a table as nodes

pub table-first : {b c : Builder} {k : ℕ} (env : List ℕ) (index first size : ℕ) → Gives b c (λ inputs. outside (at b inputs index)) k
    → Along b c (λ inputs v. among_cells (environment (denoted b inputs env)) first (at b inputs index) size v)
    (λ inputs. picked_value (environment (denoted b inputs env)) (picked first size (at b inputs index))) k
table-first {b} {c} {k} env index first size g = record {
  grows = g.grows;
  within = g.within;
  value = λ inputs.
      ap (among_cells (environment (denoted b inputs env)) first (at b inputs index) size) (g.value inputs)
      ∙ table-value (environment (denoted b inputs env)) first size (at b inputs index);
}

pub table-next : {b c d : Builder} {x cell k : ℕ} {whole : List Value → Value} (env : List ℕ) (index first n : ℕ)
    → Along b c (λ inputs v. among_cells (environment (denoted b inputs env)) first (at b inputs index) (suc n) v) whole x
    → (Sane c → IsUsable c index → IsUsable c cell → IsUsable c x
    → Gives c d (λ inputs. chosen (op_value At (at c inputs index) (Num (pos (n * 1000000))) Undef) (at c inputs cell) (at c inputs x)) k)
    → cell ≡ get_or env (first + n) 0 → Sane b → Known b env → IsUsable b index
    → Along b d (λ inputs v. among_cells (environment (denoted b inputs env)) first (at b inputs index) n v) whole k
table-next {b} {c} {d} {x} {cell} {k} {whole} env index first n a step is s kn hi =
    let l = a.grows.base in
    let known : IsUsable b (get_or env (first + n) 0) = known-get (first + n) s kn in
    let cell_in : IsUsable c cell = subst (IsUsable c) (sym is) (usable-on l known) in
    let g = step l.sane (usable-on l hi) cell_in a.within in
    record {
      grows = grows-then a.grows g.grows;
      within = g.within;
      value = λ inputs.
          ap (among_cells (environment (denoted b inputs env)) first (at b inputs index) n)
          (g.value inputs
          ∙ (λ i. chosen (op_value At (l.keeps inputs index hi i) (Num (pos (n * 1000000))) Undef)
          ((ap (at c inputs) is ∙ l.keeps inputs (get_or env (first + n) 0) known ∙ sym (denoted-get inputs env (first + n) s)) i) (at c inputs x)))
          ∙ a.value inputs;
    }

-- one cell
pub cell-chosen : {b b1 b2 c : Builder} {index meant test cell other k : ℕ} {v : Value} → Pushed b b1 (Lit v) meant → Pushed b1 b2 (Do At index meant 0) test
    → Pushed b2 c (Do Choose test cell other) k → Sane b → IsUsable b index → IsUsable b cell → IsUsable b other
    → Gives b c (λ inputs. chosen (op_value At (at b inputs index) v Undef) (at b inputs cell) (at b inputs other)) k
cell-chosen {b} {b1} {b2} {c} {index} {meant} {test} {cell} {other} {k} {v} p1 p2 p3 s hi hc ho =
    let s1 = gives-lit v p1 s in
    let l1 = s1.grows.base in
    let s2 = do-step p2 (usable-on l1 hi) s1.within (l1.sane.literal 0 (omega arith)) l1.sane in
    let l12 = longer-then l1 s2.grows.base in
    let s3 = do-step p3 s2.within (usable-on l12 hc) (usable-on l12 ho) l12.sane in
    record {
      grows = grows-then s1.grows (grows-then s2.grows s3.grows);
      within = s3.within;
      value = λ inputs.
          s3.value inputs ∙ choose-value _ _ _
          ∙ (λ i. chosen ((s2.value inputs ∙ (λ j. op_value At (l1.keeps inputs index hi j) (s1.value inputs j) (l1.sane.undef inputs j))) i)
          (l12.keeps inputs cell hc i) (l12.keeps inputs other ho i));
    }

-- no cell
pub outside-chosen : {b b1 b2 c : Builder} {index limit below k : ℕ} → Pushed b b1 (Lit (Num (negsuc 999999))) limit → Pushed b1 b2 (Do Le index limit 0) below
    → Pushed b2 c (Do Choose below 1 0) k → Sane b → IsUsable b index → Gives b c (λ inputs. outside (at b inputs index)) k
outside-chosen {b} {b1} {b2} {c} {index} {limit} {below} {k} p1 p2 p3 s hi =
    let s1 = gives-lit (Num (negsuc 999999)) p1 s in
    let l1 = s1.grows.base in
    let s2 = do-step p2 (usable-on l1 hi) s1.within (l1.sane.literal 0 (omega arith)) l1.sane in
    let l12 = longer-then l1 s2.grows.base in
    let s3 = do-step p3 s2.within (l12.sane.literal 1 (omega arith)) (l12.sane.literal 0 (omega arith)) l12.sane in
    record {
      grows = grows-then s1.grows (grows-then s2.grows s3.grows);
      within = s3.within;
      value = λ inputs.
          s3.value inputs ∙ choose-value _ _ _
          ∙ (λ i. chosen ((s2.value inputs ∙ (λ j. op_value Le (l1.keeps inputs index hi j) (s1.value inputs j) (l1.sane.undef inputs j))) i)
          (l12.sane.zero inputs i) (l12.sane.undef inputs i));
    }
