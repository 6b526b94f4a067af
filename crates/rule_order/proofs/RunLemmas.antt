-- The runs of a term have exactly the cells that it reads, and are within the base.
use Rattle.std.proofs.Common.{◌≡◌, ℕ, zero, suc, ◌+◌, ◌<◌, ◌≤◌, List, [], ◌∷◌, ◌++◌, length, get_or, refl, ap, inl, inr, ◌⊎◌, arith}
use Rattle.std.specs.List.{AllByRecursion}
use Rattle.m_fixed.specs.declared.amount.Value.{Value}
use Rattle.micro_m.specs.Trees.{Tree, lit, cell, pick, apply, chain, Trees, none, more, Steps, end, step}
use Rattle.micro_m.specs.declared.table.Picked.{Picked}
use Rattle.micro_m.specs.declared.table.Picked.TheVariants.{Cell, Fixed}
use Rattle.micro_m.specs.Bases.{IsWithin, AreWithin, StepsAreWithin}
use Rattle.micro_m.specs.Values.{picked}
use Rattle.micro_m.specs.Reads.{PickReads, TermReads, ArgumentsRead, StepsRead}
use Rattle.micro_m.proofs.TermLemmas.{picked-within}
use Rattle.rule_order.specs.declared.reads.Run.{Run}
use Rattle.rule_order.specs.inner.Runs.{run, IsInRun, runs_of, picked_runs, runs_in, runs_among, runs_along}
use Rattle.rule_order.specs.inner.Marks.{RunsFit}

-- one of the runs has the cell
abbrev pub AnyHas : List Run → ℕ → Type 0
AnyHas [] c = ⊥
AnyHas (r ∷ rs) c = IsInRun r c ⊎ AnyHas rs c

AnyHas-left : (rs ss : List Run) (c : ℕ) → AnyHas rs c → AnyHas (rs ++ ss) c
AnyHas-left [] ss c h = absurd h
AnyHas-left (r ∷ rs) ss c (inl h) = inl h
AnyHas-left (r ∷ rs) ss c (inr h) = inr (AnyHas-left rs ss c h)

AnyHas-right : (rs ss : List Run) (c : ℕ) → AnyHas ss c → AnyHas (rs ++ ss) c
AnyHas-right [] ss c h = h
AnyHas-right (r ∷ rs) ss c h = inr (AnyHas-right rs ss c h)

AnyHas-either : (rs ss : List Run) (c : ℕ) → AnyHas (rs ++ ss) c → AnyHas rs c ⊎ AnyHas ss c
AnyHas-either [] ss c h = inr h
AnyHas-either (r ∷ rs) ss c (inl h) = inl (inl h)
AnyHas-either (r ∷ rs) ss c (inr h) = elim (AnyHas-either rs ss c h) [ inl k ↦ inl (inr k) | inr k ↦ inr k ]

pub AnyHas-place : (rs : List Run) (c : ℕ) → AnyHas rs c → (i : ℕ) × (i < length rs) × ((d : Run) → IsInRun (get_or rs i d) c)
AnyHas-place [] c h = absurd h
AnyHas-place (r ∷ rs) c (inl h) = (0, omega arith, λ d. h)
AnyHas-place (r ∷ rs) c (inr h) = let k = AnyHas-place rs c h in (suc k.0, omega arith, k.2)

pub AnyHas-at : (rs : List Run) (c i : ℕ) (d : Run) → i < length rs → IsInRun (get_or rs i d) c → AnyHas rs c
AnyHas-at [] c i d h r = absurd (omega arith)
AnyHas-at (r ∷ rs) c zero d h k = inl k
AnyHas-at (r ∷ rs) c (suc i) d h k = inr (AnyHas-at rs c i d (omega arith) k)

-- ---- the cells that a term reads

of-literal : (p : Picked) (c : ℕ) → p ≡ Cell c → AnyHas (runs_of p) c
of-literal (Cell d) c e = let is : d ≡ c = cc in inl (omega arith, omega arith)
of-literal (Fixed v) c e = absurd (cc)

from-literal : (p : Picked) (c : ℕ) → AnyHas (runs_of p) c → p ≡ Cell c
from-literal (Cell d) c (inl h) = let is : d ≡ c = omega arith in ap Cell is
from-literal (Cell d) c (inr h) = absurd h
from-literal (Fixed v) c h = absurd h

one : (r : Run) (c : ℕ) → AnyHas (r ∷ []) c → IsInRun r c
one r c (inl h) = h
one r c (inr h) = absurd h

of-pick : (first size : ℕ) (index : Tree) (c : ℕ) → PickReads first size index c → AnyHas (picked_runs first size index) c
of-pick first size (lit v) c h = of-literal (picked first size v) c h
of-pick first size (cell d) c h = inl h
of-pick first size (pick g s i) c h = inl h
of-pick first size (apply o as') c h = inl h
of-pick first size (chain a ss) c h = inl h

from-pick : (first size : ℕ) (index : Tree) (c : ℕ) → AnyHas (picked_runs first size index) c → PickReads first size index c
from-pick first size (lit v) c h = from-literal (picked first size v) c h
from-pick first size (cell d) c h = one (run first size) c h
from-pick first size (pick g s i) c h = one (run first size) c h
from-pick first size (apply o as') c h = one (run first size) c h
from-pick first size (chain a ss) c h = one (run first size) c h

mutual
  pub runs-have : (t : Tree) (c : ℕ) → TermReads t c → AnyHas (runs_in t) c
  runs-have (lit v) c h = absurd h
  runs-have (cell d) c h = inl (omega arith, omega arith)
  runs-have (pick first size index) c (inl h) = AnyHas-left (runs_in index) (picked_runs first size index) c (runs-have index c h)
  runs-have (pick first size index) c (inr h) = AnyHas-right (runs_in index) (picked_runs first size index) c (of-pick first size index c h)
  runs-have (apply op all) c h = among-have all c h
  runs-have (chain a steps) c (inl h) = AnyHas-left (runs_in a) (runs_along steps) c (runs-have a c h)
  runs-have (chain a steps) c (inr h) = AnyHas-right (runs_in a) (runs_along steps) c (along-have steps c h)

  among-have : (all : Trees) (c : ℕ) → ArgumentsRead all c → AnyHas (runs_among all) c
  among-have none c h = absurd h
  among-have (more a rest) c (inl h) = AnyHas-left (runs_in a) (runs_among rest) c (runs-have a c h)
  among-have (more a rest) c (inr h) = AnyHas-right (runs_in a) (runs_among rest) c (among-have rest c h)

  along-have : (steps : Steps) (c : ℕ) → StepsRead steps c → AnyHas (runs_along steps) c
  along-have end c h = absurd h
  along-have (step op a rest) c (inl h) = AnyHas-left (runs_in a) (runs_along rest) c (runs-have a c h)
  along-have (step op a rest) c (inr h) = AnyHas-right (runs_in a) (runs_along rest) c (along-have rest c h)

mutual
  pub have-runs : (t : Tree) (c : ℕ) → AnyHas (runs_in t) c → TermReads t c
  have-runs (lit v) c h = absurd h
  have-runs (cell d) c h = let k = one (run d 1) c h in omega arith
  have-runs (pick first size index) c h = elim (AnyHas-either (runs_in index) (picked_runs first size index) c h)
      [ inl k ↦ inl (have-runs index c k) | inr k ↦ inr (from-pick first size index c k) ]
  have-runs (apply op all) c h = have-among all c h
  have-runs (chain a steps) c h = elim (AnyHas-either (runs_in a) (runs_along steps) c h) [ inl k ↦ inl (have-runs a c k) | inr k ↦ inr (have-along steps c k) ]

  have-among : (all : Trees) (c : ℕ) → AnyHas (runs_among all) c → ArgumentsRead all c
  have-among none c h = absurd h
  have-among (more a rest) c h = elim (AnyHas-either (runs_in a) (runs_among rest) c h) [ inl k ↦ inl (have-runs a c k) | inr k ↦ inr (have-among rest c k) ]

  have-along : (steps : Steps) (c : ℕ) → AnyHas (runs_along steps) c → StepsRead steps c
  have-along end c h = absurd h
  have-along (step op a rest) c h = elim (AnyHas-either (runs_in a) (runs_along rest) c h) [ inl k ↦ inl (have-runs a c k) | inr k ↦ inr (have-along rest c k) ]

-- ---- within the base

abbrev Fit : ℕ → List Run → Type 0
Fit cells rs = AllByRecursion (λ r. r.first + r.count ≤ cells) rs

Fit-append : (cells : ℕ) (rs ss : List Run) → Fit cells rs → Fit cells ss → Fit cells (rs ++ ss)
Fit-append cells [] ss h k = k
Fit-append cells (r ∷ rs) ss h k = (h.0, Fit-append cells rs ss h.1 k)

fit-literal : (cells first size : ℕ) (v : Value) (p : Picked) → picked first size v ≡ p → first + size ≤ cells → Fit cells (runs_of p)
fit-literal cells first size v (Cell c) e h = let k = picked-within first size v c e in (omega arith, tt)
fit-literal cells first size v (Fixed w) e h = tt

fit-pick : (cells first size : ℕ) (index : Tree) → first + size ≤ cells → Fit cells (picked_runs first size index)
fit-pick cells first size (lit v) h = fit-literal cells first size v (picked first size v) refl h
fit-pick cells first size (cell d) h = (h, tt)
fit-pick cells first size (pick g s i) h = (h, tt)
fit-pick cells first size (apply o as') h = (h, tt)
fit-pick cells first size (chain a ss) h = (h, tt)

mutual
  fit-runs : (cells : ℕ) (t : Tree) → IsWithin cells t → Fit cells (runs_in t)
  fit-runs cells (lit v) h = tt
  fit-runs cells (cell d) h = (omega arith, tt)
  fit-runs cells (pick first size index) h = Fit-append cells (runs_in index) (picked_runs first size index) (fit-runs cells index h.1)
      (fit-pick cells first size index h.0)
  fit-runs cells (apply op all) h = fit-among cells all h
  fit-runs cells (chain a steps) h = Fit-append cells (runs_in a) (runs_along steps) (fit-runs cells a h.0) (fit-along cells steps h.1)

  fit-among : (cells : ℕ) (all : Trees) → AreWithin cells all → Fit cells (runs_among all)
  fit-among cells none h = tt
  fit-among cells (more a rest) h = Fit-append cells (runs_in a) (runs_among rest) (fit-runs cells a h.0) (fit-among cells rest h.1)

  fit-along : (cells : ℕ) (steps : Steps) → StepsAreWithin cells steps → Fit cells (runs_along steps)
  fit-along cells end h = tt
  fit-along cells (step op a rest) h = Fit-append cells (runs_in a) (runs_along rest) (fit-runs cells a h.0) (fit-along cells rest h.1)

fit-at : (cells : ℕ) (rs : List Run) → Fit cells rs → (k : ℕ) (d : Run) → k < length rs → (get_or rs k d).first + (get_or rs k d).count ≤ cells
fit-at cells [] h k d l = absurd (omega arith)
fit-at cells (r ∷ rs) h zero d l = h.0
fit-at cells (r ∷ rs) h (suc k) d l = fit-at cells rs h.1 k d (omega arith)

pub runs-fit : (cells : ℕ) (t : Tree) → IsWithin cells t → RunsFit cells (runs_in t)
runs-fit cells t h = fit-at cells (runs_in t) (fit-runs cells t h)
