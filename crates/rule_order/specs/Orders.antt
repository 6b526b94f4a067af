-- Orders of a base's definitions, and the cycle that an error shows.
use Rattle.std.specs.Prelude.{◌≡◌, ℕ, ◌<◌, true, false, List, [], ◌∷◌, map, length, All}
use Rattle.micro_m.specs.declared.base.Base.{Base}
use Rattle.micro_m.specs.Bases.{is_among, AreDistinctCells, target_at, term_at}
use Rattle.micro_m.specs.Reads.{Reads, TermReads, IsCycle, BeginsWithLeast}
use Rattle.rule_order.specs.declared.fault.OrderFault.{OrderFault}
use Rattle.rule_order.specs.declared.fault.OrderFault.TheVariants.{Cycle, Memory}

-- the cells that the definitions at these positions define
abbrev pub cells_at : Base → List ℕ → List ℕ
cells_at base positions = map (target_at base) positions

-- The term at each of these positions reads no cell that is defined at this or a later position of
-- the list: the cells that it reads are defined earlier, or not at all. For the definitions `A = B`
-- and `B = 1`, the list 1, 0 satisfies this, and 0, 1 doesn't.
abbrev pub ReadsEarlier : Base → List ℕ → Type 0
ReadsEarlier base [] = Unit {0}
ReadsEarlier base (p ∷ later) = ((c : ℕ) → TermReads (term_at base p) c → is_among c (cells_at base (p ∷ later)) ≡ false) × ReadsEarlier base later

-- An order of a base: the position of each definition occurs in it exactly once, after those of all
-- cells that the definition reads.
pub record IsOrder (base : Base) (sequence : List ℕ) : Type 0 where
  pub within : All (λ p. p < length base.definitions) sequence
  pub every : (p : ℕ) → p < length base.definitions → is_among p sequence ≡ true
  pub once : AreDistinctCells sequence
  pub earlier : ReadsEarlier base sequence

-- the fault is a cycle of the base that begins with its least cell
abbrev pub ShowsCycle : Base → OrderFault → Type 0
ShowsCycle base (Cycle cells) = IsCycle (Reads base) cells × BeginsWithLeast cells
ShowsCycle base Memory = ⊥
