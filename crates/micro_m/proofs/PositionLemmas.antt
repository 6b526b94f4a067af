-- Definitions by their positions: the term at a position is the definition of the cell there.
use Rattle.std.proofs.Common.{◌≡◌, ℕ, zero, suc, ◌<◌, true, false, cond, nat_eq, List, [], ◌∷◌, length, get_or, map, Some, ap, sym, ◌∙◌, subst, arith}
use Rattle.std.proofs.lemmas.List.{get_or-map}
use Rattle.std.proofs.Math.ListN.{length-map}
use Rattle.std.specs.Option.{IsSomeAnd}
use Rattle.m_fixed.specs.declared.amount.Value.TheVariants.{Undef}
use Rattle.micro_m.specs.Trees.{Tree, lit}
use Rattle.micro_m.specs.declared.base.Base.{Base}
use Rattle.micro_m.specs.Bases.{Definition, is_among, AreDistinctCells, targets_of, target_at, term_at, definition_among, definition_of, IsValidBase}
use Rattle.micro_m.specs.Reads.{TermReads, Reads}
use Rattle.micro_m.proofs.NumberLemmas.{same, itself, cases, clash, among-at, place-one}

abbrev cells : List Definition → List ℕ
cells ds = map (λ d. d.0) ds

abbrev terms : List Definition → List Tree
terms ds = map (λ d. d.1) ds

defined-at : (ds : List Definition) (p : ℕ) → AreDistinctCells (cells ds) → p < length ds
    → definition_among ds (get_or (cells ds) p 0) ≡ Some (get_or (terms ds) p (lit Undef))
defined-at [] p d h = absurd (omega arith)
defined-at (x ∷ ds) zero d h = ap (λ b. cond b (Some x.1) (definition_among ds x.0)) (itself x.0)
defined-at (x ∷ ds) (suc p) d h =
    let c : ℕ = get_or (cells ds) p 0 in
    let long : length (cells ds) ≡ length ds = length-map ds (λ (e : Definition). e.0) in
    cases (nat_eq c x.0)
    (λ (t : nat_eq c x.0 ≡ true). absurd (clash (subst (λ n. is_among n (cells ds) ≡ true) (same c x.0 t) (among-at (cells ds) p (omega arith))) d.0))
    (λ (f : nat_eq c x.0 ≡ false). ap (λ b. cond b (Some x.1) (definition_among ds c)) f ∙ defined-at ds p d.1 (omega arith))

position-of : (ds : List Definition) (c : ℕ) (t : Tree) → definition_among ds c ≡ Some t → (p : ℕ) × (p < length ds) × (get_or (cells ds) p 0 ≡ c)
    × (get_or (terms ds) p (lit Undef) ≡ t)
position-of [] c t e = absurd (cc)
position-of (x ∷ ds) c t e = cases (nat_eq c x.0)
    (λ (y : nat_eq c x.0 ≡ true).
    let is : Some x.1 ≡ Some t = sym (ap (λ b. cond b (Some x.1) (definition_among ds c)) y) ∙ e in
    (0, omega arith, sym (same c x.0 y), cc))
    (λ (n : nat_eq c x.0 ≡ false).
    let k = position-of ds c t (sym (ap (λ b. cond b (Some x.1) (definition_among ds c)) n) ∙ e) in
    (suc k.0, omega arith, k.2, k.3))

pub definition_of-target : (base : Base) (p : ℕ) → AreDistinctCells (targets_of base) → p < length base.definitions
    → definition_of base (target_at base p) ≡ Some (term_at base p)
definition_of-target base p d h = defined-at base.definitions p d h

pub definition_of-position : (base : Base) (c : ℕ) (t : Tree) → definition_of base c ≡ Some t → (p : ℕ) × (p < length base.definitions) × (target_at base p ≡ c)
    × (term_at base p ≡ t)
definition_of-position base c t e = position-of base.definitions c t e

-- the positions of one cell are equal
pub position-one : (base : Base) (p q : ℕ) → AreDistinctCells (targets_of base) → p < length base.definitions → q < length base.definitions
    → target_at base p ≡ target_at base q → p ≡ q
position-one base p q d hp hq e =
    let long : length (targets_of base) ≡ length base.definitions = length-map base.definitions (λ (x : Definition). x.0) in
    place-one (targets_of base) p q d (omega arith) (omega arith) e

-- a cell reads the cells that the term at its position reads
pub Reads-target : (base : Base) (p c : ℕ) → AreDistinctCells (targets_of base) → p < length base.definitions → TermReads (term_at base p) c
    → Reads base (target_at base p) c
Reads-target base p c d h r = subst (λ o. IsSomeAnd o (λ t. TermReads t c)) (sym (definition_of-target base p d h)) r

-- the definition at a position of the list
pub definition-at : (base : Base) (p : ℕ) (d : Definition) → p < length base.definitions → d ≡ get_or base.definitions p d
    → (d.0 ≡ target_at base p) × (d.1 ≡ term_at base p)
definition-at base p d h e = (
  ap (λ (x : Definition). x.0) e ∙ sym (get_or-map (λ (x : Definition). x.0) base.definitions p d 0 h),
  ap (λ (x : Definition). x.1) e ∙ sym (get_or-map (λ (x : Definition). x.1) base.definitions p d (lit Undef) h),
)

pub target-within : (base : Base) (p : ℕ) → IsValidBase base → p < length base.definitions → target_at base p < base.cells
target-within base p valid h = valid.targets p 0 (omega (arith, length-map base.definitions (λ (d : Definition). d.0)))
