-- Dependencies between cells, and cycles. A cell depends on its first definition alone, so the laws
-- need no valid base.
use Rattle.std.specs.Prelude.{◌≡◌, ℕ, ◌+◌, ◌<◌, ◌≤◌, ◌⊎◌, List, [], ◌∷◌, All, IsSomeAnd}
use Rattle.micro_m.specs.Trees.{Tree, lit, cell, pick, apply, chain, Trees, none, more, Steps, end, step}
use Rattle.micro_m.specs.declared.table.Picked.TheVariants.{Cell}
use Rattle.micro_m.specs.declared.base.Base.{Base}
use Rattle.micro_m.specs.Bases.{AreDistinctCells, definition_of}
use Rattle.micro_m.specs.Values.{picked}

-- The cells of the table that a table read reads: at a literal the selected cell, if there is one;
-- at any other index all cells.
abbrev pub PickReads : ℕ → ℕ → Tree → ℕ → Type 0
PickReads first size (lit index) c = picked first size index ≡ Cell c
PickReads first size _ c = (first ≤ c) × (c < first + size)

abbrev mutual
  -- a term reads the cells that occur in it, in any branch
  pub TermReads : Tree → ℕ → Type 0
  TermReads (lit value) c = ⊥
  TermReads (cell d) c = c ≡ d
  TermReads (pick first size index) c = TermReads index c ⊎ PickReads first size index c
  TermReads (apply op arguments) c = ArgumentsRead arguments c
  TermReads (chain first steps) c = TermReads first c ⊎ StepsRead steps c

  pub ArgumentsRead : Trees → ℕ → Type 0
  ArgumentsRead none c = ⊥
  ArgumentsRead (more argument rest) c = TermReads argument c ⊎ ArgumentsRead rest c

  pub StepsRead : Steps → ℕ → Type 0
  StepsRead end c = ⊥
  StepsRead (step op operand rest) c = TermReads operand c ⊎ StepsRead rest c

-- a cell reads the cells that its term reads; a cell without a definition reads nothing
abbrev pub Reads : Base → ℕ → ℕ → Type 0
Reads base x y = IsSomeAnd (definition_of base x) (λ term. TermReads term y)

-- from x through these numbers, each in the relation with the next, to one in the relation with which
-- the last of them is
abbrev pub LeadsTo : (ℕ → ℕ → Type 0) → ℕ → List ℕ → ℕ → Type 0
LeadsTo R x [] last = R x last
LeadsTo R x (y ∷ ys) last = R x y × LeadsTo R y ys last

-- A cycle of a relation: distinct numbers, each in it with the next, and the last with the first. In
-- `Reads base` they are cells, each reading the next; a cell that reads itself is one too.
abbrev pub IsCycle : (ℕ → ℕ → Type 0) → List ℕ → Type 0
IsCycle R [] = ⊥
IsCycle R (x ∷ xs) = AreDistinctCells (x ∷ xs) × LeadsTo R x xs x

abbrev pub HasNoCycle : Base → Type 0
HasNoCycle base = (cells : List ℕ) → IsCycle (Reads base) cells → ⊥

-- the least of the cells is the first
abbrev pub BeginsWithLeast : List ℕ → Type 0
BeginsWithLeast [] = Unit {0}
BeginsWithLeast (x ∷ xs) = All (λ y. x ≤ y) xs
