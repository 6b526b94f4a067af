-- Monotonicity: products and quotients of numbers of two intervals are between those of the ends.
use Rattle.std.proofs.Common.{◌≡◌, ℕ, zero, suc, ◌<◌, ℤ, pos, negsuc, ◌+ℤ◌, neg_ℤ, ◌≤ℤ◌, ◌*ℤ◌, ◌⊎◌, ap, ◌∙◌, subst, inl, inr, ⊎_elim, arith}
use Rattle.std.proofs.lemmas.Int.{ints, clamps}
use lib.IntN.{zero-*ℤ, suc_ℤ-*ℤ, *ℤ_comm, *ℤ-negsuc}
use Rattle.m_fixed.specs.declared.operator.Op.TheVariants.{Mul}
use Rattle.m_fixed.specs.Amounts.{unit}
use Rattle.m_fixed.specs.Rounding.{rounded}
use Rattle.m_fixed.specs.Operators.{result_of}
use Rattle.definedness.specs.Ranges.{InRange}
use Rattle.definedness.specs.Results.{least_of, greatest_of, corners}
use Rattle.definedness.proofs.Rounded.{rounded_grows}

abbrev pub Between : ℤ → ℤ → ℤ → Type 0
Between p q z = ((p ≤ℤ z) × (z ≤ℤ q)) ⊎ ((q ≤ℤ z) × (z ≤ℤ p))

-- ---- the least and the greatest of four

at_least : (low p q z : ℤ) → low ≤ℤ p → low ≤ℤ q → Between p q z → low ≤ℤ z
at_least low p q z a b h = ⊎_elim (λ i. let l = i.0 in omega (arith, ints)) (λ i. let l = i.0 in omega (arith, ints)) h

at_most : (high p q z : ℤ) → p ≤ℤ high → q ≤ℤ high → Between p q z → z ≤ℤ high
at_most high p q z a b h = ⊎_elim (λ i. let u = i.1 in omega (arith, ints)) (λ i. let u = i.1 in omega (arith, ints)) h

least_is : (p q r s : ℤ) → (least_of p q r s ≤ℤ p) × (least_of p q r s ≤ℤ q) × (least_of p q r s ≤ℤ r) × (least_of p q r s ≤ℤ s)
unfolding least_of
least_is p q r s = (omega (arith, ints, clamps), omega (arith, ints, clamps), omega (arith, ints, clamps), omega (arith, ints, clamps))

greatest_is : (p q r s : ℤ) → (p ≤ℤ greatest_of p q r s) × (q ≤ℤ greatest_of p q r s) × (r ≤ℤ greatest_of p q r s) × (s ≤ℤ greatest_of p q r s)
unfolding greatest_of
greatest_is p q r s = (omega (arith, ints, clamps), omega (arith, ints, clamps), omega (arith, ints, clamps), omega (arith, ints, clamps))

-- two steps: along one side each, and then across
pub two_steps : (p q r s u v z : ℤ) → Between p q u → Between r s v → Between u v z → InRange (least_of p q r s, greatest_of p q r s) z
two_steps p q r s u v z a b c =
    let low = least_of p q r s in
    let high = greatest_of p q r s in
    let l = least_is p q r s in
    let h = greatest_is p q r s in (
      at_least low u v z (at_least low p q u l.0 l.1 a) (at_least low r s v l.2 l.3 b) c,
      at_most high u v z (at_most high p q u h.0 h.1 a) (at_most high r s v h.2 h.3 b) c,
    )

-- ---- monotone functions keep what is between

-- a monotone function, at these numbers
grown : (p q z p' q' z' : ℤ) → (p ≤ℤ z → p' ≤ℤ z') → (z ≤ℤ q → z' ≤ℤ q') → (q ≤ℤ z → q' ≤ℤ z') → (z ≤ℤ p → z' ≤ℤ p') → Between p q z → Between p' q' z'
grown p q z p' q' z' a b c d h = ⊎_elim (λ i. inl (a i.0, b i.1)) (λ i. inr (c i.0, d i.1)) h

pub opposite : (p q z : ℤ) → Between p q z → Between (neg_ℤ p) (neg_ℤ q) (neg_ℤ z)
opposite p q z h = ⊎_elim
    (λ i. let l = i.0 in let u = i.1 in inr (omega (arith, ints), omega (arith, ints)))
    (λ i. let l = i.0 in let u = i.1 in inl (omega (arith, ints), omega (arith, ints)))
    h

pub swapped : (p q z : ℤ) → Between p q z → Between q p z
swapped p q z h = ⊎_elim (λ i. inr i) (λ i. inl i) h

pub rounded_between : (p q z : ℤ) (d : ℕ) → 0 < d → Between p q z → Between (rounded p (pos d)) (rounded q (pos d)) (rounded z (pos d))
rounded_between p q z d some h = grown p q z (rounded p (pos d)) (rounded q (pos d)) (rounded z (pos d)) (rounded_grows p z d some) (rounded_grows z q d some)
    (rounded_grows q z d some) (rounded_grows z p d some) h

-- ---- products

grows : (n : ℕ) (x y : ℤ) → x ≤ℤ y → (pos n *ℤ x) ≤ℤ (pos n *ℤ y)
grows zero x y h =
    let a = zero-*ℤ x in
    let b = zero-*ℤ y in
    omega (arith, ints)
grows (suc n) x y h =
    let i = grows n x y h in
    let a : pos (suc n) *ℤ x ≡ (pos n *ℤ x) +ℤ x = suc_ℤ-*ℤ (pos n) x in
    let b : pos (suc n) *ℤ y ≡ (pos n *ℤ y) +ℤ y = suc_ℤ-*ℤ (pos n) y in
    omega (arith, ints)

opposite_factor : (n : ℕ) (x : ℤ) → negsuc n *ℤ x ≡ neg_ℤ (pos (suc n) *ℤ x)
opposite_factor n x = *ℤ_comm (negsuc n) x ∙ *ℤ-negsuc x n ∙ ap neg_ℤ (*ℤ_comm x (pos (suc n)))

pub products_between : (k a b x : ℤ) → a ≤ℤ x → x ≤ℤ b → Between (k *ℤ a) (k *ℤ b) (k *ℤ x)
products_between (pos n) a b x l u = inl (grows n a x l, grows n x b u)
products_between (negsuc n) a b x l u =
    let p = opposite_factor n a in
    let q = opposite_factor n b in
    let r = opposite_factor n x in
    let s = grows (suc n) a x l in
    let t = grows (suc n) x b u in
    inr (omega (arith, ints), omega (arith, ints))

-- the same with the factors exchanged
pub multiples_between : (k a b x : ℤ) → a ≤ℤ x → x ≤ℤ b → Between (a *ℤ k) (b *ℤ k) (x *ℤ k)
multiples_between k a b x l u = subst (λ p. Between p (b *ℤ k) (x *ℤ k)) (*ℤ_comm k a)
    (subst (λ p. Between (k *ℤ a) p (x *ℤ k)) (*ℤ_comm k b) (subst (Between (k *ℤ a) (k *ℤ b)) (*ℤ_comm k x) (products_between k a b x l u)))

mul_between : (k a b x : ℤ) → a ≤ℤ x → x ≤ℤ b → Between (result_of Mul k a) (result_of Mul k b) (result_of Mul k x)
mul_between k a b x l u = rounded_between (k *ℤ a) (k *ℤ b) (k *ℤ x) unit (omega arith) (products_between k a b x l u)

mul_across : (k a b x : ℤ) → a ≤ℤ x → x ≤ℤ b → Between (result_of Mul a k) (result_of Mul b k) (result_of Mul x k)
mul_across k a b x l u = rounded_between (a *ℤ k) (b *ℤ k) (x *ℤ k) unit (omega arith) (multiples_between k a b x l u)

pub products_hold : (r s : ℤ × ℤ) (x y : ℤ) → InRange r x → InRange s y → InRange (corners Mul r s) (result_of Mul x y)
products_hold r s x y h i =
    two_steps (result_of Mul r.0 s.0) (result_of Mul r.0 s.1) (result_of Mul r.1 s.0) (result_of Mul r.1 s.1) (result_of Mul r.0 y) (result_of Mul r.1 y)
    (result_of Mul x y)
    (mul_between r.0 s.0 s.1 y i.0 i.1) (mul_between r.1 s.0 s.1 y i.0 i.1) (mul_across y r.0 r.1 x h.0 h.1)
