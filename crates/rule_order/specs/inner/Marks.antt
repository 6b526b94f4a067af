-- The invariant of the search: the marks of cells, the placed definitions, and those on the path.
use Rattle.std.specs.Prelude.{◌≡◌, ℕ, ◌+◌, ◌<◌, ◌≤◌, true, List, [], ◌∷◌, map, length, All, slice_index_or}
use Rattle.micro_m.specs.declared.base.Base.{Base}
use Rattle.micro_m.specs.Bases.{is_among, AreDistinctCells, target_at, term_at}
use Rattle.micro_m.specs.Reads.{TermReads, Reads}
use Rattle.rule_order.specs.declared.search.Mark.{Mark}
use Rattle.rule_order.specs.declared.search.Mark.TheVariants.{Settled, Waiting, Open}
use Rattle.rule_order.specs.declared.search.Frame.{Frame}
use Rattle.rule_order.specs.declared.search.Search.{Search}
use Rattle.rule_order.specs.declared.reads.Run.{Run}
use Rattle.rule_order.specs.Orders.{cells_at, ReadsEarlier}
use Rattle.rule_order.specs.inner.Runs.{run, IsInRun, runs_in}

-- ---- marks

-- the mark of a cell
abbrev pub mark_of : List Mark → ℕ → Mark
mark_of marks c = slice_index_or marks c Settled

-- the number of steps until a cell is settled
abbrev pub steps_left : Mark → ℕ
steps_left Settled = 0
steps_left Open = 1
steps_left (Waiting position) = 2

abbrev pub IsSettled : List Mark → ℕ → Type 0
IsSettled marks c = mark_of marks c ≡ Settled

-- no cell is farther from being settled
abbrev pub HasAdvanced : List Mark → List Mark → Type 0
HasAdvanced old new = (c : ℕ) → steps_left (mark_of new c) ≤ steps_left (mark_of old c)

-- ---- runs

-- each cell of the run is settled
abbrev pub RunIsSettled : List Mark → Run → Type 0
RunIsSettled marks r = (c : ℕ) → IsInRun r c → IsSettled marks c

-- for each cell, this many cells from it on are settled
abbrev pub KnowsSettled : List Mark → List ℕ → Type 0
KnowsSettled marks known = (f : ℕ) → RunIsSettled marks (run f (slice_index_or known f 0))

-- the runs end at most at this cell
abbrev pub RunsFit : ℕ → List Run → Type 0
RunsFit cells runs = All (λ r. r.first + r.count ≤ cells) runs

-- the runs from one index up to another are settled
abbrev pub AllPassed : List Mark → List Run → ℕ → ℕ → Type 0
AllPassed marks runs low high = (i : ℕ) (d : Run) → low ≤ i → i < high → RunIsSettled marks (slice_index_or runs i d)

-- From one index on, the runs are settled up to another index, whose run has an unsettled cell.
pub record StopsAt (marks : List Mark) (runs : List Run) (low place cell : ℕ) : Type 0 where
  pub from : low ≤ place
  pub within : place < length runs
  pub passed : AllPassed marks runs low place
  pub here : (d : Run) → IsInRun (slice_index_or runs place d) cell
  pub unsettled : IsSettled marks cell → ⊥

-- ---- the path

-- each of these cells reads the next
abbrev pub ReadsNext : Base → List ℕ → Type 0
ReadsNext base [] = Unit {0}
ReadsNext base (x ∷ []) = Unit {0}
ReadsNext base (x ∷ y ∷ rest) = Reads base x y × ReadsNext base (y ∷ rest)

-- the last of these cells, if there is one, reads c
abbrev pub LastReads : Base → List ℕ → ℕ → Type 0
LastReads base [] c = Unit {0}
LastReads base (x ∷ []) c = Reads base x c
LastReads base (x ∷ y ∷ rest) c = LastReads base (y ∷ rest) c

abbrev pub positions_of : List Frame → List ℕ
positions_of frames = map (λ f. f.position) frames

abbrev pub cells_of : List Frame → List ℕ
cells_of frames = map (λ f. f.cell) frames

-- The invariant, with the positions of the begun definitions in `path` and of the placed ones in
-- `sequence`: the marks agree with both, each definition on the path reads the next, and placed
-- definitions read only settled cells.
pub record IsSearch (base : Base) (marks : List Mark) (path sequence : List ℕ) : Type 0 where
  pub size : length marks ≡ base.cells
  pub path_within : (p : ℕ) → is_among p path ≡ true → p < length base.definitions
  pub placed_within : (p : ℕ) → is_among p sequence ≡ true → p < length base.definitions
  pub waiting : (c p : ℕ) → mark_of marks c ≡ Waiting p → (p < length base.definitions) × (target_at base p ≡ c)
  pub begun : (c : ℕ) → mark_of marks c ≡ Open → is_among c (cells_at base path) ≡ true
  pub settled : (p : ℕ) → p < length base.definitions → IsSettled marks (target_at base p) → is_among p sequence ≡ true
  pub on_path : (c : ℕ) → is_among c (cells_at base path) ≡ true → mark_of marks c ≡ Open
  pub placed : (p : ℕ) → is_among p sequence ≡ true → IsSettled marks (target_at base p)
  pub path_once : AreDistinctCells (cells_at base path)
  pub placed_once : AreDistinctCells sequence
  pub path_reads : ReadsNext base (cells_at base path)
  pub closed : (p c : ℕ) → is_among p sequence ≡ true → TermReads (term_at base p) c → IsSettled marks c
  pub earlier : ReadsEarlier base sequence

-- the frame of a definition that has just begun
pub record IsFrameAt (base : Base) (p : ℕ) (frame : Frame) : Type 0 where
  pub position : frame.position ≡ p
  pub cell : frame.cell ≡ target_at base p
  pub reads : frame.reads.items ≡ runs_in (term_at base p)
  pub next : frame.next ≡ 0

-- the frame of a definition on the path
pub record IsFrame (base : Base) (marks : List Mark) (frame : Frame) : Type 0 where
  pub within : frame.position < length base.definitions
  pub cell : frame.cell ≡ target_at base frame.position
  pub reads : frame.reads.items ≡ runs_in (term_at base frame.position)
  pub next : frame.next ≤ length frame.reads.items
  pub passed : AllPassed marks frame.reads.items 0 frame.next

-- the invariant between two steps of the search, with these frames as the path
pub record IsWalk (base : Base) (marks : List Mark) (known sequence : List ℕ) (path : List Frame) : Type 0 where
  pub search : IsSearch base marks (positions_of path) sequence
  pub frames : All (IsFrame base marks) path
  pub knows : KnowsSettled marks known
  pub known_size : length known ≡ base.cells

abbrev pub Walks : Base → Search → List Frame → Type 0
Walks base search frames = IsWalk base search.marks.items search.known.items search.sequence.items frames
