-- `term_reads` decides `TermReads`.
use Rattle.std.proofs.Common.{◌≡◌, ℕ, ◌+◌, ◌<◌, ◌≤◌, true, leb, ltb, ap, sym, inl, inr}
use Rattle.std.proofs.lemmas.Bool.{or_cases, or_left, or_right, and_parts, and_from, eqb-true, eq-eqb, leb-true, le-leb, ltb-true, lt-ltb}
use Rattle.micro_m.specs.Trees.{Tree, lit, cell, pick, apply, chain, Trees, none, more, Steps, end, step}
use Rattle.micro_m.specs.declared.table.Picked.{Picked}
use Rattle.micro_m.specs.declared.table.Picked.TheVariants.{Cell, Fixed}
use Rattle.micro_m.specs.Values.{picked}
use Rattle.micro_m.specs.Reads.{PickReads, TermReads, ArgumentsRead, StepsRead}
use Rattle.micro_m.specs.ReadTests.{is_cell, is_in_run, pick_reads, term_reads, arguments_read, steps_read}

-- ---- tables

cell-is : (p : Picked) (c : ℕ) → is_cell p c ≡ true → p ≡ Cell c
cell-is (Cell d) c e = ap Cell (sym (eqb-true c d e))
cell-is (Fixed v) c e = cc e

is-cell : (p : Picked) (c : ℕ) → p ≡ Cell c → is_cell p c ≡ true
is-cell (Cell d) c e = let same : d ≡ c = cc in eq-eqb c d (sym same)
is-cell (Fixed v) c e = cc e

pub run-has : (first size c : ℕ) → is_in_run first size c ≡ true → (first ≤ c) × (c < first + size)
run-has first size c e = let k = and_parts (leb first c) (ltb c (first + size)) e in (leb-true first c k.0, ltb-true c (first + size) k.1)

pub has-run : (first size c : ℕ) → first ≤ c → c < first + size → is_in_run first size c ≡ true
has-run first size c low high = and_from (leb first c) (ltb c (first + size)) (le-leb first c low) (lt-ltb c (first + size) high)

pick-is : (first size : ℕ) (index : Tree) (c : ℕ) → pick_reads first size index c ≡ true → PickReads first size index c
pick-is first size (lit v) c e = cell-is (picked first size v) c e
pick-is first size (cell d) c e = run-has first size c e
pick-is first size (pick g s i) c e = run-has first size c e
pick-is first size (apply o all) c e = run-has first size c e
pick-is first size (chain a ss) c e = run-has first size c e

is-pick : (first size : ℕ) (index : Tree) (c : ℕ) → PickReads first size index c → pick_reads first size index c ≡ true
is-pick first size (lit v) c h = is-cell (picked first size v) c h
is-pick first size (cell d) c h = has-run first size c h.0 h.1
is-pick first size (pick g s i) c h = has-run first size c h.0 h.1
is-pick first size (apply o all) c h = has-run first size c h.0 h.1
is-pick first size (chain a ss) c h = has-run first size c h.0 h.1

-- ---- terms

mutual
  pub term-is : (t : Tree) (c : ℕ) → term_reads t c ≡ true → TermReads t c
  term-is (lit v) c e = cc e
  term-is (cell d) c e = eqb-true c d e
  term-is (pick first size index) c e = elim (or_cases (term_reads index c) (pick_reads first size index c) e)
      [ inl k ↦ inl (term-is index c k) | inr k ↦ inr (pick-is first size index c k) ]
  term-is (apply op all) c e = all-is all c e
  term-is (chain a steps) c e = elim (or_cases (term_reads a c) (steps_read steps c) e) [ inl k ↦ inl (term-is a c k) | inr k ↦ inr (steps-is steps c k) ]

  all-is : (all : Trees) (c : ℕ) → arguments_read all c ≡ true → ArgumentsRead all c
  all-is none c e = cc e
  all-is (more a rest) c e = elim (or_cases (term_reads a c) (arguments_read rest c) e) [ inl k ↦ inl (term-is a c k) | inr k ↦ inr (all-is rest c k) ]

  steps-is : (steps : Steps) (c : ℕ) → steps_read steps c ≡ true → StepsRead steps c
  steps-is end c e = cc e
  steps-is (step op a rest) c e = elim (or_cases (term_reads a c) (steps_read rest c) e) [ inl k ↦ inl (term-is a c k) | inr k ↦ inr (steps-is rest c k) ]

mutual
  pub is-term : (t : Tree) (c : ℕ) → TermReads t c → term_reads t c ≡ true
  is-term (lit v) c h = absurd h
  is-term (cell d) c h = eq-eqb c d h
  is-term (pick first size index) c (inl h) = or_left (term_reads index c) (pick_reads first size index c) (is-term index c h)
  is-term (pick first size index) c (inr h) = or_right (term_reads index c) (pick_reads first size index c) (is-pick first size index c h)
  is-term (apply op all) c h = is-all all c h
  is-term (chain a steps) c (inl h) = or_left (term_reads a c) (steps_read steps c) (is-term a c h)
  is-term (chain a steps) c (inr h) = or_right (term_reads a c) (steps_read steps c) (is-steps steps c h)

  is-all : (all : Trees) (c : ℕ) → ArgumentsRead all c → arguments_read all c ≡ true
  is-all none c h = absurd h
  is-all (more a rest) c (inl h) = or_left (term_reads a c) (arguments_read rest c) (is-term a c h)
  is-all (more a rest) c (inr h) = or_right (term_reads a c) (arguments_read rest c) (is-all rest c h)

  is-steps : (steps : Steps) (c : ℕ) → StepsRead steps c → steps_read steps c ≡ true
  is-steps end c h = absurd h
  is-steps (step op a rest) c (inl h) = or_left (term_reads a c) (steps_read rest c) (is-term a c h)
  is-steps (step op a rest) c (inr h) = or_right (term_reads a c) (steps_read rest c) (is-steps rest c h)
