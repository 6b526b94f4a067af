-- Usable nodes, as a flat program grows.
use Rattle.std.proofs.Common.{◌≡◌, ℕ, zero, suc, ◌+◌, ◌<◌, ◌≤◌, Bool, true, false, nat_lt, List, [], ◌∷◌, length, ◌⊎◌, inl, inr, ⊎_elim, refl, sym, ap, ◌∙◌}
use Rattle.std.proofs.Common.{subst, arith}
use Rattle.std.specs.List.{AllByRecursion}
use Rattle.std.proofs.lemmas.Bool.{ltb-true, ltb-false}
use Rattle.m_fixed.specs.declared.operator.Op.TheVariants.{And}
use Rattle.observables.specs.declared.inputs.InputType.{InputType}
use Rattle.flat_code.specs.declared.program.Node.{Node}
use Rattle.flat_code.specs.declared.program.Node.TheVariants.{Input, Lit, Do}
use Rattle.flat_code.specs.declared.program.Check.{Check}
use Rattle.flat_code.specs.Entries.{node_at}
use Rattle.flat_code.specs.Runs.{IsNode, AreNodes}
use Rattle.flat_code.specs.Tidy.{Reads}
use Rattle.mpp_inline.specs.declared.builder.Builder.{Builder}
use Rattle.mpp_inline.specs.Inlined.{IsTruthInput}
use Rattle.mpp_inline.specs.inner.Growth.{count, node_of, IsUsable, MayStand, Longer}
use Rattle.mpp_inline.proofs.ListLemmas.{all-more}

-- a node remains usable if the older nodes are unchanged
pub usable-kept : {b c : Builder} {k : ℕ} → c.inputs ≡ b.inputs → count b ≤ count c → ((j : ℕ) → j < count b → node_of c j ≡ node_of b j) → IsUsable b k
    → IsUsable c k
usable-kept {b} {c} {k} same more kept h = record {
  there = omega (arith, more, h.there);
  own = λ t. h.own (subst (λ ks. IsTruthInput ks (node_of b k)) same (subst (IsTruthInput c.inputs) (kept k h.there) t));
}

pub usable-on : {b c : Builder} {k : ℕ} → Longer b c → IsUsable b k → IsUsable c k
usable-on l h = usable-kept l.inputs l.longer l.keeps_node h

-- nodes that checks and notes read remain usable
pub checks-kept : {b c : Builder} → ((k : ℕ) → IsUsable b k → IsUsable c k) → (cs : List Check)
    → AllByRecursion (λ d. IsUsable b d.guard × IsUsable b d.condition) cs → AllByRecursion (λ d. IsUsable c d.guard × IsUsable c d.condition) cs
checks-kept {b} {c} on cs a = all-more (λ d. IsUsable b d.guard × IsUsable b d.condition) (λ d. IsUsable c d.guard × IsUsable c d.condition)
    (λ d h. (on d.guard h.0, on d.condition h.1)) cs a

pub notes-fenced : {b c : Builder} → ((k : ℕ) → IsUsable b k → IsUsable c k) → (ns : List (ℕ × ℕ)) → AllByRecursion (λ d. IsUsable b d.0) ns
    → AllByRecursion (λ d. IsUsable c d.0) ns
notes-fenced {b} {c} on ns a = all-more (λ d. IsUsable b d.0) (λ d. IsUsable c d.0) (λ d h. on d.0 h) ns a

-- older nodes read older nodes
pub reads-older : (inputs m : ℕ) (ns : List Node) (p x : ℕ) → AreNodes inputs m ns → p < length ns → Reads (node_at ns p) x → x < m + p
reads-older inputs m [] p x a h r = absurd (omega (arith, h))
reads-older inputs m (Input n ∷ ns) zero x a h r = absurd r
reads-older inputs m (Lit v ∷ ns) zero x a h r = absurd r
reads-older inputs m (Do op i j k ∷ ns) zero x a h r = ⊎_elim
    (λ (e : x ≡ i). omega (arith, e, a.0.0))
    (⊎_elim (λ (e : x ≡ j). omega (arith, e, a.0.1)) (λ (e : x ≡ k). omega (arith, e, a.0.2)))
    r
reads-older inputs m (n ∷ ns) (suc p) x a h r =
    let low : x < m + 1 + p = reads-older inputs (m + 1) ns p x a.1 (omega (arith, h)) r in
    omega (arith, low)

-- a node that may be appended: it reads usable nodes, or is the `And` of an input of type `Truth`
pub record IsWithinCount (b : Builder) (n : Node) : Type 0 where
  pub node : IsNode (length b.inputs) (count b) n
  pub read : (x : ℕ) → Reads n x → IsTruthInput b.inputs (node_of b x) → n ≡ Do And x x x

pub may-stand : {b : Builder} (n : Node) → MayStand b n → IsWithinCount b n
may-stand (Input n) h = record { node = h; read = λ x r t. absurd r }
may-stand (Lit v) h = record { node = tt; read = λ x r t. absurd r }
may-stand {b} (Do op i j k) h = record {
  node = (h.0.there, h.1.there, h.2.there);
  read = λ x r t. absurd (⊎_elim
      (λ (e : x ≡ i). h.0.own (subst (λ y. IsTruthInput b.inputs (node_of b y)) e t))
      (⊎_elim
      (λ (e : x ≡ j). h.1.own (subst (λ y. IsTruthInput b.inputs (node_of b y)) e t))
      (λ (e : x ≡ k). h.2.own (subst (λ y. IsTruthInput b.inputs (node_of b y)) e t)))
      r);
}

-- the `And` of a node that exists
pub and-stands : {b : Builder} (k : ℕ) → k < count b → IsWithinCount b (Do And k k k)
and-stands k h = record {
  node = (h, h, h);
  read = λ x r t. ap (λ y. Do And y y y)
      (⊎_elim (λ (e : x ≡ k). sym e) (⊎_elim (λ (e : x ≡ k). sym e) (λ (e : x ≡ k). sym e)) r);
}

-- a node reads earlier nodes
pub reads-node : (inputs m : ℕ) (d : Node) (x : ℕ) → IsNode inputs m d → Reads d x → x < m
reads-node inputs m (Input i) x a r = absurd r
reads-node inputs m (Lit v) x a r = absurd r
reads-node inputs m (Do op i j k) x a r = ⊎_elim
    (λ (e : x ≡ i). omega (arith, e, a.0))
    (⊎_elim (λ (e : x ≡ j). omega (arith, e, a.1)) (λ (e : x ≡ k). omega (arith, e, a.2)))
    r

-- the last node, or one before it
pub last-or : (m p : ℕ) → p < m + 1 → (p < m) ⊎ (p ≡ m)
last-or m p h = by (nat_lt p m) refl
  where
    by : (b : Bool) → nat_lt p m ≡ b → (p < m) ⊎ (p ≡ m)
    by true e = inl (ltb-true p m e)
    by false e = inr (let up : m ≤ p = ltb-false p m e in omega (arith, up, h))

-- a node reads the same nodes as before, if they existed
pub read-as-before : (ks ks' : List InputType) (n n' m m' : Node) (x : ℕ) → ks' ≡ ks → n' ≡ n → m' ≡ m → (Reads n x → IsTruthInput ks m → n ≡ Do And x x x)
    → Reads n' x → IsTruthInput ks' m' → n' ≡ Do And x x x
read-as-before ks ks' n n' m m' x e f g h r t = f ∙ h (subst (λ y. Reads y x) f r) (subst (λ y. IsTruthInput ks y) g (subst (λ y. IsTruthInput y m') e t))
