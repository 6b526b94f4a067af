-- The marks of cells that are read: by runs, then swept, then without those that have definitions.
use Rattle.std.proofs.Common.{◌≡◌, ℕ, zero, suc, ◌+◌, ◌<◌, ◌≤◌, max, Bool, true, false, ltb, eqb, List, [], ◌∷◌, length, get_or, map, replicate, All, Result}
use Rattle.std.proofs.Common.{Ok, Err, refl, ap, sym, ◌∙◌, inl, inr, arith}
use Rattle.std.specs.Prelude.{◌||◌, IfOk}
use Rattle.std.specs.List.{AllByRecursion}
use Rattle.std.proofs.lemmas.Bool.Decides.{nat_tests}
use Rattle.std.proofs.lemmas.Bool.{cases_lt}
use Rattle.std.proofs.lemmas.List.{length-set, length-replicate, set_past}
use Rattle.m_fixed.specs.declared.amount.Value.{Value}
use Rattle.micro_m.specs.Trees.{Tree, lit, cell, pick, apply, chain, Trees, none, more, Steps, end, step}
use Rattle.micro_m.specs.declared.table.Picked.{Picked}
use Rattle.micro_m.specs.declared.table.Picked.TheVariants.{Cell, Fixed}
use Rattle.micro_m.specs.Values.{picked}
use Rattle.micro_m.specs.declared.base.Base.{Base}
use Rattle.micro_m.specs.Bases.{IsWithin, AreWithin, StepsAreWithin, IsValidBase, terms_of}
use Rattle.micro_m.specs.Failures.{Check}
use Rattle.micro_m.proofs.TermLemmas.{picked-within}
use Rattle.micro_m.specs.ReadTests.{is_cell, is_in_run, pick_reads, term_reads, arguments_read, steps_read}
use Rattle.m_lint.specs.Readings.{are_read, conditions_of, is_read}
use Rattle.m_lint.specs.inner.Marks.{raised, reach_of_picked, reach_of_pick, reach_of, reach_of_all, reach_along, reach_of_terms, covers, swept}

-- ---- lengths

raised-length : (reach : List ℕ) (first count : ℕ) → length (raised reach first count) ≡ length reach
raised-length reach first count = length-set reach first (max (get_or reach first 0) count)

picked-length : (p : Picked) (reach : List ℕ) → length (reach_of_picked p reach) ≡ length reach
picked-length (Cell c) reach = raised-length reach c 1
picked-length (Fixed v) reach = refl

pick-length : (first size : ℕ) (index : Tree) (reach : List ℕ) → length (reach_of_pick first size index reach) ≡ length reach
pick-length first size (lit v) reach = picked-length (picked first size v) reach
pick-length first size (cell d) reach = raised-length reach first size
pick-length first size (pick g s i) reach = raised-length reach first size
pick-length first size (apply o all) reach = raised-length reach first size
pick-length first size (chain a ss) reach = raised-length reach first size

mutual
  term-length : (t : Tree) (reach : List ℕ) → length (reach_of t reach) ≡ length reach
  term-length (lit v) reach = refl
  term-length (cell d) reach = raised-length reach d 1
  term-length (pick first size index) reach = pick-length first size index (reach_of index reach) ∙ term-length index reach
  term-length (apply op all) reach = all-length all reach
  term-length (chain a steps) reach = along-length steps (reach_of a reach) ∙ term-length a reach

  all-length : (all : Trees) (reach : List ℕ) → length (reach_of_all all reach) ≡ length reach
  all-length none reach = refl
  all-length (more a rest) reach = all-length rest (reach_of a reach) ∙ term-length a reach

  along-length : (steps : Steps) (reach : List ℕ) → length (reach_along steps reach) ≡ length reach
  along-length end reach = refl
  along-length (step op a rest) reach = along-length rest (reach_of a reach) ∙ term-length a reach

pub terms-length : (ts : List Tree) (reach : List ℕ) → length (reach_of_terms ts reach) ≡ length reach
terms-length [] reach = refl
terms-length (t ∷ ts) reach = terms-length ts (reach_of t reach) ∙ term-length t reach

-- ---- runs

from-max : (first n m c : ℕ) → is_in_run first (max n m) c ≡ (is_in_run first n c || is_in_run first m c)
from-max first n m c = grind (arith, nat_tests)

or-last : (a b c : Bool) → ((a || b) || c) ≡ ((a || c) || b)
or-last true b c = refl
or-last false true true = refl
or-last false true false = refl
or-last false false c = by c
  where
    by : (c : Bool) → c ≡ (c || false)
    by true = refl
    by false = refl

or-assoc : (a b c : Bool) → ((a || b) || c) ≡ (a || (b || c))
or-assoc true b c = refl
or-assoc false b c = refl

-- one more run adds its cells
covers-raised : (first : ℕ) (reach : List ℕ) (i count c : ℕ) → i < length reach
    → covers first (raised reach i count) c ≡ (covers first reach c || is_in_run (first + i) count c)
covers-raised first [] i count c h = absurd (omega (arith, h))
covers-raised first (n ∷ ns) zero count c h =
    let here : first + 0 ≡ first = omega arith in
    ap (λ b. b || covers (first + 1) ns c) (from-max first n count c) ∙ or-last (is_in_run first n c) (is_in_run first count c) (covers (first + 1) ns c)
    ∙ ap (λ f. (is_in_run first n c || covers (first + 1) ns c) || is_in_run f count c) (sym here)
covers-raised first (n ∷ ns) (suc i) count c h =
    let there : first + 1 + i ≡ first + suc i = omega arith in
    ap (λ b. is_in_run first n c || b) (covers-raised (first + 1) ns i count c (omega (arith, h)))
    ∙ sym (or-assoc (is_in_run first n c) (covers (first + 1) ns c) (is_in_run (first + 1 + i) count c))
    ∙ ap (λ f. (is_in_run first n c || covers (first + 1) ns c) || is_in_run f count c) there

at : (reach : List ℕ) (i count c : ℕ) → i < length reach → covers 0 (raised reach i count) c ≡ (covers 0 reach c || is_in_run i count c)
at reach i count c h = let same : 0 + i ≡ i = omega arith in covers-raised 0 reach i count c h ∙ ap (λ f. covers 0 reach c || is_in_run f count c) same

from-one : (d c : ℕ) → is_in_run d 1 c ≡ eqb c d
from-one d c = grind (arith, nat_tests)

or-none : (b : Bool) → b ≡ (b || false)
or-none true = refl
or-none false = refl

covers-picked : (p : Picked) (first size : ℕ) (v : Value) (reach : List ℕ) (c : ℕ) → picked first size v ≡ p → first + size ≤ length reach
    → covers 0 (reach_of_picked p reach) c ≡ (covers 0 reach c || is_cell p c)
covers-picked (Cell d) first size v reach c e h =
    let k = picked-within first size v d e in
    at reach d 1 c (omega (arith, h, k)) ∙ ap (λ b. covers 0 reach c || b) (from-one d c)
covers-picked (Fixed w) first size v reach c e h = or-none (covers 0 reach c)

from-none : (first c : ℕ) → is_in_run first 0 c ≡ false
from-none first c = grind (arith, nat_tests)

-- a table of existing cells, if it has any
covers-table : (first size : ℕ) (reach : List ℕ) (c : ℕ) → first + size ≤ length reach
    → covers 0 (raised reach first size) c ≡ (covers 0 reach c || is_in_run first size c)
covers-table first size reach c h = elim (cases_lt first (length reach)) [ inl low ↦ at reach first size c low | inr high ↦ past high ]
  where
    past : length reach ≤ first → covers 0 (raised reach first size) c ≡ (covers 0 reach c || is_in_run first size c)
    past high =
        let empty : size ≡ 0 = omega (arith, h, high) in
        ap (λ ns. covers 0 ns c) (set_past reach first (max (get_or reach first 0) size) high) ∙ or-none (covers 0 reach c)
        ∙ ap (λ b. covers 0 reach c || b) (sym (ap (λ n. is_in_run first n c) empty ∙ from-none first c))

covers-pick : (first size : ℕ) (index : Tree) (reach : List ℕ) (c : ℕ) → first + size ≤ length reach
    → covers 0 (reach_of_pick first size index reach) c ≡ (covers 0 reach c || pick_reads first size index c)
covers-pick first size (lit v) reach c h = covers-picked (picked first size v) first size v reach c refl h
covers-pick first size (cell d) reach c h = covers-table first size reach c h
covers-pick first size (pick g s i) reach c h = covers-table first size reach c h
covers-pick first size (apply o all) reach c h = covers-table first size reach c h
covers-pick first size (chain a ss) reach c h = covers-table first size reach c h

-- two reads in sequence
then-read : (now before after first second : Bool) → now ≡ (before || second) → before ≡ (after || first) → now ≡ (after || (first || second))
then-read now before after first second e f = e ∙ ap (λ b. b || second) f ∙ or-assoc after first second

mutual
  -- after a term the runs contain the cells that they contained, and those that it reads
  covers-term : (t : Tree) (reach : List ℕ) (c : ℕ) → IsWithin (length reach) t → covers 0 (reach_of t reach) c ≡ (covers 0 reach c || term_reads t c)
  covers-term (lit v) reach c h = or-none (covers 0 reach c)
  covers-term (cell d) reach c h = at reach d 1 c h ∙ ap (λ b. covers 0 reach c || b) (from-one d c)
  covers-term (pick first size index) reach c h =
      then-read _ _ _ (term_reads index c) (pick_reads first size index c)
      (covers-pick first size index (reach_of index reach) c (omega (arith, h.0, term-length index reach))) (covers-term index reach c h.1)
  covers-term (apply op all) reach c h = covers-all all reach c h
  covers-term (chain a steps) reach c h =
      then-read _ _ _ (term_reads a c) (steps_read steps c)
      (covers-along steps (reach_of a reach) c (rw (term-length a reach) h.1)) (covers-term a reach c h.0)

  covers-all : (all : Trees) (reach : List ℕ) (c : ℕ) → AreWithin (length reach) all
      → covers 0 (reach_of_all all reach) c ≡ (covers 0 reach c || arguments_read all c)
  covers-all none reach c h = or-none (covers 0 reach c)
  covers-all (more a rest) reach c h =
      then-read _ _ _ (term_reads a c) (arguments_read rest c)
      (covers-all rest (reach_of a reach) c (rw (term-length a reach) h.1)) (covers-term a reach c h.0)

  covers-along : (steps : Steps) (reach : List ℕ) (c : ℕ) → StepsAreWithin (length reach) steps
      → covers 0 (reach_along steps reach) c ≡ (covers 0 reach c || steps_read steps c)
  covers-along end reach c h = or-none (covers 0 reach c)
  covers-along (step op a rest) reach c h =
      then-read _ _ _ (term_reads a c) (steps_read rest c)
      (covers-along rest (reach_of a reach) c (rw (term-length a reach) h.1)) (covers-term a reach c h.0)

covers-terms : (ts : List Tree) (reach : List ℕ) (c : ℕ) → AllByRecursion (IsWithin (length reach)) ts
    → covers 0 (reach_of_terms ts reach) c ≡ (covers 0 reach c || are_read ts c)
covers-terms [] reach c h = or-none (covers 0 reach c)
covers-terms (t ∷ ts) reach c h =
    then-read _ _ _ (term_reads t c) (are_read ts c)
    (covers-terms ts (reach_of t reach) c (rw (term-length t reach) h.1)) (covers-term t reach c h.0)

none-covered : (first n c : ℕ) → covers first (replicate n 0) c ≡ false
none-covered first zero c = refl
none-covered first (suc n) c = ap (λ b. b || covers (first + 1) (replicate n 0) c) (from-none first c) ∙ none-covered (first + 1) n c

-- two lists of terms, starting without runs: the runs contain the cells that they read
pub covers-both : (n : ℕ) (ts us : List Tree) (c : ℕ) → AllByRecursion (IsWithin n) ts → AllByRecursion (IsWithin n) us
    → covers 0 (reach_of_terms us (reach_of_terms ts (replicate n 0))) c ≡ (are_read ts c || are_read us c)
covers-both n ts us c h k =
    let zeros = replicate n 0 in
    let so_many : length zeros ≡ n = length-replicate n 0 in
    covers-terms us (reach_of_terms ts zeros) c (rw (terms-length ts zeros ∙ so_many) k)
    ∙ ap (λ b. b || are_read us c) (covers-terms ts zeros c (rw so_many h) ∙ ap (λ b. b || are_read ts c) (none-covered 0 n c))

-- ---- the sweep

pub swept-length : (first until : ℕ) (ns : List ℕ) → length (swept first until ns) ≡ length ns
swept-length first until [] = refl
swept-length first until (n ∷ ns) = ap suc (swept-length (first + 1) (max until (first + n)) ns)

from-later : (first n : ℕ) (ns : List ℕ) (c : ℕ) → c < first → covers first ns c ≡ false
from-later first n [] c h = refl
from-later first n (m ∷ ns) c h = ap (λ b. b || covers (first + 1) ns c) (low first m c h) ∙ from-later (first + 1) n ns c (omega (arith, h))
  where
    low : (first m c : ℕ) → c < first → is_in_run first m c ≡ false
    low first m c h = grind (arith, nat_tests)

-- a cell is swept if it precedes the end of earlier runs, or a run from here on contains it
swept-at : (first until : ℕ) (ns : List ℕ) (i c : ℕ) → i < length ns → c ≡ first + i
    → get_or (swept first until ns) i false ≡ (ltb c until || covers first ns c)
swept-at first until [] i c h e = absurd (omega (arith, h))
swept-at first until (n ∷ ns) zero c h e =
    let here : c ≡ first = omega (arith, e) in
    now first c until n here
    ∙ ap (λ b. ltb c until || b) (or-none (is_in_run first n c)
    ∙ ap (λ b. is_in_run first n c || b) (sym (from-later (first + 1) 0 ns c (omega (arith, here)))))
  where
    now : (first c until n : ℕ) → c ≡ first → ltb first (max until (first + n)) ≡ (ltb c until || is_in_run first n c)
    now first c until n e = grind (arith, nat_tests)
swept-at first until (n ∷ ns) (suc i) c h e =
    swept-at (first + 1) (max until (first + n)) ns i c (omega (arith, h)) (omega (arith, e))
    ∙ ap (λ b. b || covers (first + 1) ns c) (later first c until n (omega (arith, e)))
    ∙ or-assoc (ltb c until) (is_in_run first n c) (covers (first + 1) ns c)
  where
    later : (first c until n : ℕ) → first ≤ c → ltb c (max until (first + n)) ≡ (ltb c until || is_in_run first n c)
    later first c until n h = grind (arith, nat_tests)

pub swept-covers : (ns : List ℕ) (c : ℕ) → c < length ns → get_or (swept 0 0 ns) c false ≡ covers 0 ns c
swept-covers ns c h = swept-at 0 0 ns c c h (omega arith) ∙ ap (λ b. b || covers 0 ns c) (none c)
  where
    none : (c : ℕ) → ltb c 0 ≡ false
    none c = grind (arith, nat_tests)

-- ---- all marks of a base

all-first : {A B : Type 0} (P : B → Type 0) (f : A → B) (xs : List A) → All P (map f xs) → AllByRecursion P (map f xs)
all-first P f [] h = tt
all-first P f (x ∷ xs) h = (h 0 (f x) (omega arith), all-first P f xs (λ k d l. h (suc k) d (omega (arith, l))))

pub marks-count : {R E : Type 0} (items : R → List Bool) (result : Result R E) (base : Base) (reach : List ℕ)
    → reach ≡ reach_of_terms (conditions_of base) (reach_of_terms (terms_of base) (replicate base.cells 0))
    → IfOk result (λ marks. items marks ≡ swept 0 0 reach) → IfOk result (λ marks. length (items marks) ≡ base.cells)
marks-count items (Err e) base reach is h = tt
marks-count items (Ok marks) base reach is h =
    ap length h ∙ swept-length 0 0 reach ∙ ap length is ∙ terms-length (conditions_of base) (reach_of_terms (terms_of base) (replicate base.cells 0))
    ∙ terms-length (terms_of base) (replicate base.cells 0) ∙ length-replicate base.cells 0

pub marks-read : {R E : Type 0} (items : R → List Bool) (result : Result R E) (base : Base) (reach : List ℕ) → IsValidBase base
    → reach ≡ reach_of_terms (conditions_of base) (reach_of_terms (terms_of base) (replicate base.cells 0))
    → IfOk result (λ marks. items marks ≡ swept 0 0 reach) → IfOk result (λ marks. (c : ℕ) → c < base.cells → get_or (items marks) c false ≡ is_read base c)
marks-read items (Err e) base reach valid is h = tt
marks-read items (Ok marks) base reach valid is h = λ c low.
    let so_many : length reach ≡ base.cells =
    ap length is ∙ terms-length (conditions_of base) (reach_of_terms (terms_of base) (replicate base.cells 0))
    ∙ terms-length (terms_of base) (replicate base.cells 0) ∙ length-replicate base.cells 0 in
    ap (λ bs. get_or bs c false) h ∙ swept-covers reach c (omega (arith, low, so_many)) ∙ ap (λ ns. covers 0 ns c) is
    ∙ covers-both base.cells (terms_of base) (conditions_of base) c
    (all-first (IsWithin base.cells) (λ d. d.1) base.definitions valid.terms) (conditions base valid)
  where
    conditions-of : (n : ℕ) (checks : List Check) → All (λ check. IsWithin n check.0) checks → AllByRecursion (IsWithin n) (map (λ check. check.0) checks)
    conditions-of n [] h = tt
    conditions-of n (check ∷ checks) h = (h 0 check (omega arith), conditions-of n checks (λ k d l. h (suc k) d (omega (arith, l))))

    conditions : (base : Base) → IsValidBase base → AllByRecursion (IsWithin base.cells) (conditions_of base)
    conditions base valid = conditions-of base.cells base.checks valid.conditions
