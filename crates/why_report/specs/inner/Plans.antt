-- The spots of cells, which are their positions in the visited order, and the marks at spots.
use Rattle.std.specs.Prelude.{◌≡◌, ℕ, ◌+◌, ◌<◌, ◌≤◌, ◌||◌, Bool, true, List, length, slice_index_or}
use Rattle.dirty_set.specs.Members.{is_member}
use Rattle.micro_m.specs.declared.table.Picked.{Picked}
use Rattle.micro_m.specs.declared.table.Picked.TheVariants.{Cell, Fixed}
use Rattle.rule_order.specs.declared.ordered.Ordered.{Ordered}
use Rattle.why_report.specs.declared.plan.Plan.{Plan}
use Rattle.why_report.specs.Reasons.{cells_down}

-- ---- the plan of an ordered base

-- each cell's spot is its position among cells
abbrev pub AreSpotsOf : List ℕ → List ℕ → Type 0
AreSpotsOf cells spots = (s : ℕ) → s < length cells → slice_index_or spots (slice_index_or cells s 0) 0 ≡ s

-- The plan of an ordered base: its cells from the last of the order on, and each cell's spot.
pub record IsPlanOf (ordered : Ordered) (plan : Plan) : Type 0 where
  pub cells : plan.cells.items ≡ cells_down ordered
  pub size : length plan.spots.items ≡ ordered.base.cells
  pub spots : AreSpotsOf plan.cells.items plan.spots.items

-- ---- marks

-- whether a cell is marked at its spot
abbrev pub is_marked : List ℕ → List Bool → ℕ → Bool
is_marked spots set c = is_member set (slice_index_or spots c 0)

-- each of `size` cells from `first` on is marked
abbrev pub AllMarked : List ℕ → List Bool → ℕ → ℕ → Type 0
AllMarked spots set first size = (c : ℕ) → c < length spots → first ≤ c → c < first + size → is_marked spots set c ≡ true

-- Spots are below a count, and distinct for distinct cells.
pub record AreSpots (spots : List ℕ) (count : ℕ) : Type 0 where
  pub within : (c : ℕ) → c < length spots → slice_index_or spots c 0 < count
  pub one : (c d : ℕ) → c < length spots → d < length spots → slice_index_or spots c 0 ≡ slice_index_or spots d 0 → c ≡ d

-- Each spot is a number of the set, and from each cell on `known` cells are marked.
pub record IsMarking (spots : List ℕ) (set : List Bool) (known : List ℕ) : Type 0 where
  pub are_spots : AreSpots spots (length set)
  pub size : length known ≡ length spots
  pub knows : (first : ℕ) → AllMarked spots set first (slice_index_or known first 0)

-- the set gained the marks of these cells, and no others
pub record Marks (spots : List ℕ) (old new : List Bool) (reads : ℕ → Bool) : Type 0 where
  pub size : length new ≡ length old
  pub each : (c : ℕ) → c < length spots → is_marked spots new c ≡ (is_marked spots old c || reads c)

-- the cell that a table read selects, if it selects one, is below a count
abbrev pub PickedIsWithin : ℕ → Picked → Type 0
PickedIsWithin cells (Cell c) = c < cells
PickedIsWithin cells (Fixed value) = Unit {0}
