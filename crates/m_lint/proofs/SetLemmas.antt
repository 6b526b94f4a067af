-- Marks after some are set or cleared.
use Rattle.std.proofs.Common.{◌≡◌, ℕ, zero, suc, ◌<◌, Bool, true, false, eqb, List, [], ◌∷◌, length, get_or, set, map, replicate, All, refl, ap, sym, ◌∙◌}
use Rattle.std.proofs.Common.{arith}
use Rattle.std.specs.Prelude.{◌||◌, ◌&&◌, not}
use Rattle.std.specs.List.{list_any}
use Rattle.std.proofs.lemmas.Bool.{ne_eqb}
use Rattle.std.proofs.lemmas.Bool.Decides.{nat_tests}
use Rattle.std.proofs.lemmas.List.{length-set, length-replicate, get_or-replicate}
use Rattle.m_symbols.specs.Declarations.{Declared}
use Rattle.micro_m.specs.declared.base.Base.{Base}
use Rattle.micro_m.specs.Bases.{Definition, is_among, targets_of}
use Rattle.flat_code.specs.declared.program.Node.{Node}
use Rattle.flat_code.specs.declared.program.Node.TheVariants.{Input, Lit, Do}
use Rattle.flat_code.specs.declared.program.Flat.{Flat}
use Rattle.m_lint.specs.Readings.{is_read}
use Rattle.m_lint.specs.Findings.{is_given, is_never_defined, is_input_node, is_unused}
use Rattle.m_lint.specs.inner.Marks.{cleared, with_inputs}

pub cleared-length : (ds : List Definition) (marks : List Bool) → length (cleared ds marks) ≡ length marks
cleared-length [] marks = refl
cleared-length (d ∷ ds) marks = cleared-length ds (set marks d.0 false) ∙ length-set marks d.0 false

and-true : (b : Bool) → b ≡ (b && true)
and-true true = refl
and-true false = refl

same-next : (c n : ℕ) → eqb c n ≡ eqb (suc c) (suc n)
same-next c n = grind (arith, nat_tests)

set-false : (marks : List Bool) (n c : ℕ) → get_or (set marks n false) c false ≡ (get_or marks c false && not (eqb c n))
set-false [] n c = refl
set-false (m ∷ ms) zero zero = by m
  where
    by : (m : Bool) → false ≡ (m && false)
    by true = refl
    by false = refl
set-false (m ∷ ms) zero (suc c) = and-true (get_or ms c false) ∙ ap (λ b. get_or ms c false && not b) (sym (ne_eqb (suc c) 0 (λ e. omega (arith, e))))
set-false (m ∷ ms) (suc n) zero = and-true m ∙ ap (λ b. m && not b) (sym (ne_eqb 0 (suc n) (λ e. omega (arith, e))))
set-false (m ∷ ms) (suc n) (suc c) = set-false ms n c ∙ ap (λ b. get_or ms c false && not b) (same-next c n)

-- the marks of the cells that have no definition stay
pub cleared-at : (ds : List Definition) (marks : List Bool) (c : ℕ)
    → get_or (cleared ds marks) c false ≡ (get_or marks c false && not (is_among c (map (λ d. d.0) ds)))
cleared-at [] marks c = and-true (get_or marks c false)
cleared-at (d ∷ ds) marks c =
    cleared-at ds (set marks d.0 false) c ∙ ap (λ b. b && not (is_among c (map (λ d. d.0) ds))) (set-false marks d.0 c)
    ∙ by (get_or marks c false) (eqb c d.0) (is_among c (map (λ d. d.0) ds))
  where
    by : (m a b : Bool) → ((m && not a) && not b) ≡ (m && not (a || b))
    by true true b = refl
    by true false b = refl
    by false a b = refl

set-true : (marks : List Bool) (n c : ℕ) → c < length marks → get_or (set marks n true) c false ≡ (eqb c n || get_or marks c false)
set-true [] n c h = absurd (omega (arith, h))
set-true (m ∷ ms) zero zero h = refl
set-true (m ∷ ms) zero (suc c) h = ap (λ b. b || get_or ms c false) (sym (ne_eqb (suc c) 0 (λ e. omega (arith, e))))
set-true (m ∷ ms) (suc n) zero h = ap (λ b. b || m) (sym (ne_eqb 0 (suc n) (λ e. omega (arith, e))))
set-true (m ∷ ms) (suc n) (suc c) h = set-true ms n c (omega (arith, h)) ∙ ap (λ b. b || get_or ms c false) (same-next c n)

-- the inputs that nodes read are marked
pub used-at : (nodes : List Node) (marks : List Bool) (c : ℕ) → c < length marks
    → get_or (with_inputs nodes marks) c false ≡ (get_or marks c false || list_any (is_input_node c) nodes)
used-at [] marks c h = by (get_or marks c false)
  where
    by : (b : Bool) → b ≡ (b || false)
    by true = refl
    by false = refl
used-at (Input n ∷ nodes) marks c h =
    used-at nodes (set marks n true) c (omega (arith, h, length-set marks n true)) ∙ ap (λ b. b || list_any (is_input_node c) nodes) (set-true marks n c h)
    ∙ by (eqb c n) (get_or marks c false) (list_any (is_input_node c) nodes)
  where
    by : (a m b : Bool) → ((a || m) || b) ≡ (m || (a || b))
    by true true b = refl
    by true false b = refl
    by false true b = refl
    by false false b = refl
used-at (Lit v ∷ nodes) marks c h = used-at nodes marks c h
used-at (Do op x y z ∷ nodes) marks c h = used-at nodes marks c h

-- defined cells are below a count if the targets are
pub targets-low : (n : ℕ) (ds : List Definition) → All (λ c. c < n) (map (λ d. d.0) ds) → All (λ d. d.0 < n) ds
targets-low n [] h k d l = absurd (omega (arith, l))
targets-low n (x ∷ ds) h zero d l = h 0 0 (omega arith)
targets-low n (x ∷ ds) h (suc k) d l = targets-low n ds (λ j e low. h (suc j) e (omega (arith, low))) k d (omega (arith, l))

-- a cell that is read, has no definition, and isn't given is never defined
pub never-defined : (declared : Declared) (base : Base) (c : ℕ) (mark : Bool) → mark ≡ (is_read base c && not (is_among c (targets_of base)))
    → (mark && not (is_given declared c)) ≡ is_never_defined declared base c
never-defined declared base c mark e = ap (λ b. b && not (is_given declared c)) e ∙ by (is_read base c) (is_among c (targets_of base)) (is_given declared c)
  where
    by : (r d g : Bool) → ((r && not d) && not g) ≡ ((r && not g) && not d)
    by false d g = refl
    by true true true = refl
    by true true false = refl
    by true false true = refl
    by true false false = refl

-- an input that isn't marked isn't used
pub unused-at : (flat : Flat) (n : ℕ) → n < flat.inputs → not (get_or (with_inputs flat.nodes (replicate flat.inputs false)) n false) ≡ is_unused flat n
unused-at flat n low =
    ap not (used-at flat.nodes (replicate flat.inputs false) n (omega (arith, low, length-replicate flat.inputs false))
    ∙ ap (λ b. b || list_any (is_input_node n) flat.nodes) (get_or-replicate flat.inputs n false false low))
