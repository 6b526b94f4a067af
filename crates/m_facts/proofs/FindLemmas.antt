-- Outputs and their nodes, by number.
use Rattle.std.proofs.Common.{ℕ, zero, suc, ◌+◌, ◌<◌, ◌≤◌, Bool, true, false, cond, List, [], ◌∷◌, length, get_or, map, arith}
use Rattle.std.specs.Prelude.{filter}
use Rattle.std.specs.List.{AllByRecursion, range_with_len}
use Rattle.m_lint.specs.Findings.{numbers_with}
use Rattle.m_facts.specs.Found.{node_of}

pub all-at : (count k : ℕ) (ps : List ℕ) → AllByRecursion (λ p. p < count) ps → k < length ps → get_or ps k 0 < count
all-at count k [] h low = absurd (omega (arith, low))
all-at count zero (p ∷ ps) h low = h.0
all-at count (suc k) (p ∷ ps) h low = all-at count k ps h.1 (omega (arith, low))

-- the nodes of some outputs are below a count if those of all outputs are
pub nodes-low : (count : ℕ) (ps ks : List ℕ) → AllByRecursion (λ p. p < count) ps → AllByRecursion (λ k. k < length ps) ks
    → AllByRecursion (λ p. p < count) (map (node_of ps) ks)
nodes-low count ps [] h low = tt
nodes-low count ps (k ∷ ks) h low = (all-at count k ps h low.0, nodes-low count ps ks h low.1)

from-low : (test : ℕ → Bool) (bound first n : ℕ) → first + n ≤ bound → AllByRecursion (λ k. k < bound) (filter test (range_with_len first n))
from-low test bound first zero h = tt
from-low test bound first (suc n) h = by (test first) (from-low test bound (first + 1) n (omega (arith, h)))
  where
    rest : List ℕ
    rest = filter test (range_with_len (first + 1) n)

    by : (b : Bool) → AllByRecursion (λ k. k < bound) rest → AllByRecursion (λ k. k < bound) (cond b (first ∷ rest) rest)
    by true later = (omega (arith, h), later)
    by false later = later

-- numbers below a count are below it
pub numbers-low : (test : ℕ → Bool) (n : ℕ) → AllByRecursion (λ k. k < n) (numbers_with test n)
numbers-low test n = from-low test n 0 n (omega arith)
