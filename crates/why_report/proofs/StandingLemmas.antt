-- Whether a term's cells are marked, by the cells that it reads, and for a table by its run of
-- cells.
use Rattle.std.proofs.Common.{◌≡◌, ℕ, zero, suc, ◌+◌, ◌<◌, ◌≤◌, Bool, true, false, List, length, get_or, set, refl, ap, sym, ◌∙◌, inl, inr, arith}
use Rattle.std.proofs.lemmas.List.{get_or-set_same, get_or-set_other, set_past}
use Rattle.std.proofs.lemmas.Bool.{and_parts, and_from, cases_eq, cases_lt, cases_Bool}
use Rattle.micro_m.specs.Trees.{Tree, lit, cell, pick, apply, chain, Trees, none, more, Steps, end, step}
use Rattle.micro_m.specs.declared.table.Picked.{Picked}
use Rattle.micro_m.specs.declared.table.Picked.TheVariants.{Cell, Fixed}
use Rattle.micro_m.specs.Values.{picked}
use Rattle.micro_m.specs.Reads.{PickReads, TermReads, ArgumentsRead, StepsRead}
use Rattle.micro_m.proofs.NumberLemmas.{clash}
use Rattle.why_report.specs.inner.Standing.{is_set, AllStand, KnowsStanding, run_is_marked, picked_is_marked, table_is_marked, term_is_marked, arguments_stand}
use Rattle.why_report.specs.inner.Standing.{steps_stand}

-- ---- cells in a row

pub run-all : (marks : List Bool) (first size : ℕ) → run_is_marked marks first size ≡ true → AllStand marks first size
run-all marks first zero h c low high = absurd (omega arith)
run-all marks first (suc size) h c low high =
    let k = and_parts (is_set marks first) (run_is_marked marks (suc first) size) h in
    elim (cases_eq c first) [ inl e ↦ ap (is_set marks) e ∙ k.0 | inr n ↦ run-all marks (suc first) size k.1 c (omega (arith, above c low n)) (omega arith) ]
  where
    above : (c : ℕ) → first ≤ c → (c ≡ first → ⊥) → suc first ≤ c
    above c l n = omega arith

pub all-run : (marks : List Bool) (first size : ℕ) → AllStand marks first size → run_is_marked marks first size ≡ true
all-run marks first zero h = refl
all-run marks first (suc size) h =
    and_from (is_set marks first) (run_is_marked marks (suc first) size) (h first (omega arith) (omega arith))
    (all-run marks (suc first) size (λ c low high. h c (omega arith) (omega arith)))

-- one cell that isn't marked
pub run-not : (marks : List Bool) (first size c : ℕ) → first ≤ c → c < first + size → is_set marks c ≡ false → run_is_marked marks first size ≡ false
run-not marks first size c low high f = elim (cases_Bool (run_is_marked marks first size))
    [ inl t ↦ absurd (clash (run-all marks first size t c low high) f) | inr g ↦ g ]

-- a longer run that is known to be marked
pub knows-more : (marks : List Bool) (known : List ℕ) (first size : ℕ) → KnowsStanding marks known → AllStand marks first size
    → KnowsStanding marks (set known first size)
knows-more marks known first size knows all f c low high =
    elim (cases_lt first (length known)) [
      | inl here ↦ elim (cases_eq f first) [
        | inl e ↦ all c (omega (arith, e)) (omega (arith, e, ap (λ n. get_or (set known first size) n 0) e, get_or-set_same known first size 0 here))
        | inr n ↦ knows f c low (omega (arith, get_or-set_other known first f size 0 n))
      ]
      | inr past ↦ knows f c low (omega (arith, ap (λ (l : List ℕ). get_or l f 0) (set_past known first size past)))
    ]

-- ---- a term

picked-covers : (marks : List Bool) (p : Picked) (c : ℕ) → picked_is_marked marks p ≡ true → p ≡ Cell c → is_set marks c ≡ true
picked-covers marks p c h e = sym (ap (picked_is_marked marks) e) ∙ h

covers-picked : (marks : List Bool) (p : Picked) → ((c : ℕ) → p ≡ Cell c → is_set marks c ≡ true) → picked_is_marked marks p ≡ true
covers-picked marks (Cell c) h = h c refl
covers-picked marks (Fixed v) h = refl

table-covers : (marks : List Bool) (first size : ℕ) (index : Tree) (c : ℕ) → table_is_marked marks first size index ≡ true → PickReads first size index c
    → is_set marks c ≡ true
table-covers marks first size (lit v) c h r = picked-covers marks (picked first size v) c h r
table-covers marks first size (cell d) c h r = run-all marks first size h c r.0 r.1
table-covers marks first size (pick g s i) c h r = run-all marks first size h c r.0 r.1
table-covers marks first size (apply o as') c h r = run-all marks first size h c r.0 r.1
table-covers marks first size (chain a ss) c h r = run-all marks first size h c r.0 r.1

covers-table : (marks : List Bool) (first size : ℕ) (index : Tree) → ((c : ℕ) → PickReads first size index c → is_set marks c ≡ true)
    → table_is_marked marks first size index ≡ true
covers-table marks first size (lit v) h = covers-picked marks (picked first size v) h
covers-table marks first size (cell d) h = all-run marks first size (λ c low high. h c (low, high))
covers-table marks first size (pick g s i) h = all-run marks first size (λ c low high. h c (low, high))
covers-table marks first size (apply o as') h = all-run marks first size (λ c low high. h c (low, high))
covers-table marks first size (chain a ss) h = all-run marks first size (λ c low high. h c (low, high))

mutual
  pub term-covers : (marks : List Bool) (t : Tree) → term_is_marked marks t ≡ true → (c : ℕ) → TermReads t c → is_set marks c ≡ true
  term-covers marks (lit v) h c r = absurd r
  term-covers marks (cell d) h c r = ap (is_set marks) r ∙ h
  term-covers marks (pick first size index) h c (inl r) = term-covers marks index
      (and_parts (term_is_marked marks index) (table_is_marked marks first size index) h).0 c r
  term-covers marks (pick first size index) h c (inr r) = table-covers marks first size index c
      (and_parts (term_is_marked marks index) (table_is_marked marks first size index) h).1 r
  term-covers marks (apply op all) h c r = arguments-cover marks all h c r
  term-covers marks (chain a steps) h c (inl r) = term-covers marks a (and_parts (term_is_marked marks a) (steps_stand marks steps) h).0 c r
  term-covers marks (chain a steps) h c (inr r) = steps-cover marks steps (and_parts (term_is_marked marks a) (steps_stand marks steps) h).1 c r

  arguments-cover : (marks : List Bool) (all : Trees) → arguments_stand marks all ≡ true → (c : ℕ) → ArgumentsRead all c → is_set marks c ≡ true
  arguments-cover marks none h c r = absurd r
  arguments-cover marks (more a rest) h c (inl r) = term-covers marks a (and_parts (term_is_marked marks a) (arguments_stand marks rest) h).0 c r
  arguments-cover marks (more a rest) h c (inr r) = arguments-cover marks rest (and_parts (term_is_marked marks a) (arguments_stand marks rest) h).1 c r

  steps-cover : (marks : List Bool) (steps : Steps) → steps_stand marks steps ≡ true → (c : ℕ) → StepsRead steps c → is_set marks c ≡ true
  steps-cover marks end h c r = absurd r
  steps-cover marks (step op a rest) h c (inl r) = term-covers marks a (and_parts (term_is_marked marks a) (steps_stand marks rest) h).0 c r
  steps-cover marks (step op a rest) h c (inr r) = steps-cover marks rest (and_parts (term_is_marked marks a) (steps_stand marks rest) h).1 c r

mutual
  pub covers-term : (marks : List Bool) (t : Tree) → ((c : ℕ) → TermReads t c → is_set marks c ≡ true) → term_is_marked marks t ≡ true
  covers-term marks (lit v) h = refl
  covers-term marks (cell d) h = h d refl
  covers-term marks (pick first size index) h = and_from (term_is_marked marks index) (table_is_marked marks first size index)
      (covers-term marks index (λ c r. h c (inl r))) (covers-table marks first size index (λ c r. h c (inr r)))
  covers-term marks (apply op all) h = cover-arguments marks all h
  covers-term marks (chain a steps) h = and_from (term_is_marked marks a) (steps_stand marks steps) (covers-term marks a (λ c r. h c (inl r)))
      (cover-steps marks steps (λ c r. h c (inr r)))

  cover-arguments : (marks : List Bool) (all : Trees) → ((c : ℕ) → ArgumentsRead all c → is_set marks c ≡ true) → arguments_stand marks all ≡ true
  cover-arguments marks none h = refl
  cover-arguments marks (more a rest) h = and_from (term_is_marked marks a) (arguments_stand marks rest) (covers-term marks a (λ c r. h c (inl r)))
      (cover-arguments marks rest (λ c r. h c (inr r)))

  cover-steps : (marks : List Bool) (steps : Steps) → ((c : ℕ) → StepsRead steps c → is_set marks c ≡ true) → steps_stand marks steps ≡ true
  cover-steps marks end h = refl
  cover-steps marks (step op a rest) h = and_from (term_is_marked marks a) (steps_stand marks rest) (covers-term marks a (λ c r. h c (inl r)))
      (cover-steps marks rest (λ c r. h c (inr r)))
