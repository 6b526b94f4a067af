-- The test whether a term reads a cell agrees with its definition.
use Rattle.std.proofs.Common.{◌≡◌, ℕ, ◌+◌, ◌<◌, ◌≤◌, Bool, true, false, nat_eq, nat_lt, nat_le, Option, None, Some, List, [], ◌∷◌, refl, ap, sym, ◌∙◌, subst}
use Rattle.std.proofs.Common.{inl, inr, ◌⊎◌, arith}
use mathlib.Core.Bool.{◌||◌}
use Rattle.std.proofs.lemmas.Bool.{and_parts, and_from}
use Rattle.std.proofs.lemmas.Bool.Decides.{nat_tests}
use Rattle.std.specs.List.{list_any}
use Rattle.std.specs.Option.{option_map_or, IsSomeAnd}
use Rattle.micro_m.specs.Trees.{Tree, lit, cell, pick, apply, chain, Trees, none, more, Steps, end, step}
use Rattle.micro_m.specs.declared.table.Picked.{Picked}
use Rattle.micro_m.specs.declared.table.Picked.TheVariants.{Cell, Fixed}
use Rattle.micro_m.specs.declared.base.Base.{Base}
use Rattle.micro_m.specs.Bases.{is_among, definition_of, IsWithin, AreWithin, StepsAreWithin, IsValidBase}
use Rattle.micro_m.specs.Values.{picked}
use Rattle.micro_m.specs.Reads.{PickReads, TermReads, ArgumentsRead, StepsRead, Reads}
use Rattle.micro_m.specs.ReadTests.{term_reads}
use Rattle.micro_m.proofs.ReadTestLemmas.{term-is, is-term}
use Rattle.micro_m.proofs.NumberLemmas.{same, itself, or-true}
use Rattle.micro_m.proofs.TermLemmas.{picked-within}
use Rattle.micro_m.proofs.TurnLemmas.{option_cases}
use Rattle.why_report.specs.Reasons.{IsReadAmong, cell_reads}
use Rattle.why_report.proofs.CheckLemmas.{term-within}

-- ---- truth values

pub or-left : (a b : Bool) → a ≡ true → (a || b) ≡ true
or-left true b e = refl
or-left false b e = absurd (cc)

pub or-either : (a b : Bool) → (a || b) ≡ true → (a ≡ true) ⊎ (b ≡ true)
or-either true b e = inl refl
or-either false b e = inr e

pub or-none : (a : Bool) → (a || false) ≡ a
or-none true = refl
or-none false = refl

pub or-last : (a : Bool) → (a || true) ≡ true
or-last true = refl
or-last false = refl

pub or-assoc : (a b c : Bool) → ((a || b) || c) ≡ (a || (b || c))
or-assoc true b c = refl
or-assoc false b c = refl

pub or-swap : (a b c : Bool) → ((a || b) || c) ≡ (a || (c || b))
or-swap true b c = refl
or-swap false true true = refl
or-swap false true false = refl
or-swap false false true = refl
or-swap false false false = refl

-- truth values that imply one another are equal
pub truth-same : (a b : Bool) → (a ≡ true → b ≡ true) → (b ≡ true → a ≡ true) → a ≡ b
truth-same true true f g = refl
truth-same true false f g = absurd (let e = f refl in cc)
truth-same false true f g = absurd (let e = g refl in cc)
truth-same false false f g = refl

-- ---- a cell

pub cell-reads : (base : Base) (x c : ℕ) → cell_reads base x c ≡ true → Reads base x c
cell-reads base x c h = of (definition_of base x) h
  where
    of : (o : Option Tree) → option_map_or (λ term. term_reads term c) o false ≡ true → IsSomeAnd o (λ term. TermReads term c)
    of None h = absurd (cc)
    of (Some t) h = term-is t c h

pub reads-cell : (base : Base) (x c : ℕ) → Reads base x c → cell_reads base x c ≡ true
reads-cell base x c r = of (definition_of base x) r
  where
    of : (o : Option Tree) → IsSomeAnd o (λ term. TermReads term c) → option_map_or (λ term. term_reads term c) o false ≡ true
    of None r = absurd r
    of (Some t) r = is-term t c r

pub any-read : (base : Base) (xs : List ℕ) (c : ℕ) → list_any (λ x. cell_reads base x c) xs ≡ true → IsReadAmong base xs c
any-read base [] c h = absurd (cc)
any-read base (x ∷ xs) c h = elim (or-either (cell_reads base x c) (list_any (λ y. cell_reads base y c) xs) h) [
  | inl k ↦ (x, or-left (nat_eq x x) (is_among x xs) (itself x), cell-reads base x c k)
  | inr k ↦ let r = any-read base xs c k in (r.0, or-true (nat_eq r.0 x) (is_among r.0 xs) r.1, r.2)
]

-- ---- within the base

table-within : (cells first size : ℕ) (index : Tree) (c : ℕ) → first + size ≤ cells → PickReads first size index c → c < cells
table-within cells first size (lit v) c h r = let k = picked-within first size v c r in omega arith
table-within cells first size (cell d) c h r = omega arith
table-within cells first size (pick g s i) c h r = omega arith
table-within cells first size (apply o as') c h r = omega arith
table-within cells first size (chain a ss) c h r = omega arith

mutual
  read-within : (cells : ℕ) (t : Tree) (c : ℕ) → IsWithin cells t → TermReads t c → c < cells
  read-within cells (lit v) c h r = absurd r
  read-within cells (cell d) c h r = omega arith
  read-within cells (pick first size index) c h (inl r) = read-within cells index c h.1 r
  read-within cells (pick first size index) c h (inr r) = table-within cells first size index c h.0 r
  read-within cells (apply op all) c h r = argument-within cells all c h r
  read-within cells (chain a steps) c h (inl r) = read-within cells a c h.0 r
  read-within cells (chain a steps) c h (inr r) = step-within cells steps c h.1 r

  argument-within : (cells : ℕ) (all : Trees) (c : ℕ) → AreWithin cells all → ArgumentsRead all c → c < cells
  argument-within cells none c h r = absurd r
  argument-within cells (more a rest) c h (inl r) = read-within cells a c h.0 r
  argument-within cells (more a rest) c h (inr r) = argument-within cells rest c h.1 r

  step-within : (cells : ℕ) (all : Steps) (c : ℕ) → StepsAreWithin cells all → StepsRead all c → c < cells
  step-within cells end c h r = absurd r
  step-within cells (step op a rest) c h (inl r) = read-within cells a c h.0 r
  step-within cells (step op a rest) c h (inr r) = step-within cells rest c h.1 r

-- what a cell reads is a cell of the base
pub Reads-within : (base : Base) (x c : ℕ) → IsValidBase base → Reads base x c → c < base.cells
Reads-within base x c valid r = option_cases (definition_of base x)
    (λ (n : definition_of base x ≡ None). absurd (subst (λ o. IsSomeAnd o (λ t. TermReads t c)) n r))
    (λ t (s : definition_of base x ≡ Some t).
    read-within base.cells t c (term-within base x base.cells t valid s refl) (subst (λ o. IsSomeAnd o (λ u. TermReads u c)) s r))
