-- The steps of the search, with the frames of the path and the cells that are known to be settled.
use Rattle.std.proofs.Common.{◌≡◌, ℕ, zero, suc, ◌<◌, ◌≤◌, true, List, [], ◌∷◌, ◌++◌, length, get_or, set, take, drop, refl, ap, sym, ◌∙◌, subst, inl, inr}
use Rattle.std.proofs.Common.{arith}
use Rattle.std.proofs.lemmas.Bool.{cases_lt}
use Rattle.std.proofs.lemmas.List.{drop_all, take_all, append-nil}
use Rattle.std.proofs.lemmas.List.Elements.{All-push}
use Rattle.std.proofs.Math.ListN.{length-map}
use Rattle.std.specs.List.{All, sum_by}
use Rattle.m_fixed.specs.declared.amount.Value.TheVariants.{Undef}
use Rattle.micro_m.specs.Trees.{lit}
use Rattle.micro_m.specs.declared.base.Base.{Base}
use Rattle.micro_m.specs.Bases.{Definition, is_among, AreDistinctCells, targets_of, target_at, term_at, IsWithin, IsValidBase}
use Rattle.micro_m.specs.Reads.{TermReads, Reads}
use Rattle.std.proofs.lemmas.Map.Steps.{length-le_from_distinct_below}
use Rattle.micro_m.proofs.NumberLemmas.{clash, distinct, place-among}
use Rattle.micro_m.proofs.PositionLemmas.{Reads-target, target-within, position-one}
use Rattle.rule_order.specs.declared.search.Mark.{Mark}
use Rattle.rule_order.specs.declared.search.Mark.TheVariants.{Settled, Waiting, Open}
use Rattle.rule_order.specs.declared.search.Frame.{Frame}
use Rattle.rule_order.specs.declared.reads.Run.{Run}
use Rattle.rule_order.specs.Orders.{cells_at}
use Rattle.rule_order.specs.inner.Runs.{run, IsInRun, runs_in}
use Rattle.rule_order.specs.inner.Marks.{mark_of, steps_left, IsSettled, HasAdvanced, KnowsSettled, RunsFit, AllPassed, StopsAt, ReadsNext, LastReads}
use Rattle.rule_order.specs.inner.Marks.{positions_of, cells_of, IsSearch, IsFrameAt, IsFrame, IsWalk}
use Rattle.rule_order.proofs.OrderLemmas.{All-head, All-tail}
use Rattle.rule_order.proofs.RunLemmas.{AnyHas-place, AnyHas-at, runs-have, have-runs, runs-fit}
use Rattle.rule_order.proofs.SearchLemmas.{among-new, cells-push, mark-same, mark-low, advanced-settled, advanced-set, left-less, LastReads-push, begun-step}
use Rattle.rule_order.proofs.SearchLemmas.{placed-step}

-- ---- frames

All-last : {X : Type 0} (P : X → Type 0) (xs : List X) (x : X) → All P (xs ++ x ∷ []) → P x
All-last P [] x h = All-head P x [] h
All-last P (y ∷ ys) x h = All-last P ys x (All-tail P y (ys ++ x ∷ []) h)

All-cons : {X : Type 0} (P : X → Type 0) (x : X) (xs : List X) → P x → All P xs → (k : ℕ) (d : X) → k < length (x ∷ xs) → P (get_or (x ∷ xs) k d)
All-cons P x xs h t zero d l = h
All-cons P x xs h t (suc k) d l = t k d (omega arith)

All-front : {X : Type 0} (P : X → Type 0) (xs : List X) (x : X) → All P (xs ++ x ∷ []) → All P xs
All-front P [] x h = λ k d l. absurd (omega arith)
All-front P (y ∷ ys) x h = All-cons P y ys (All-head P y (ys ++ x ∷ []) h) (All-front P ys x (All-tail P y (ys ++ x ∷ []) h))

positions-push : (path : List Frame) (frame : Frame) → positions_of (path ++ frame ∷ []) ≡ positions_of path ++ frame.position ∷ []
positions-push [] frame = refl
positions-push (f ∷ fs) frame = ap (λ (ps : List ℕ). f.position ∷ ps) (positions-push fs frame)

frames-push : (path : List Frame) (frame : Frame) → cells_of (path ++ frame ∷ []) ≡ cells_of path ++ frame.cell ∷ []
frames-push [] frame = refl
frames-push (f ∷ fs) frame = ap (λ (cs : List ℕ). f.cell ∷ cs) (frames-push fs frame)

pub cells_of-at : (base : Base) (marks : List Mark) (path : List Frame) → All (IsFrame base marks) path → cells_of path ≡ cells_at base (positions_of path)
cells_of-at base marks [] h = refl
cells_of-at base marks (f ∷ fs) h =
    let first = All-head (IsFrame base marks) f fs h in
    let cell : f.cell ≡ target_at base f.position = first.cell in
    λ i. cell i ∷ cells_of-at base marks fs (All-tail (IsFrame base marks) f fs h) i

frame-kept : (base : Base) (old new : List Mark) (frame : Frame) → ((c : ℕ) → IsSettled old c → IsSettled new c) → IsFrame base old frame
    → IsFrame base new frame
frame-kept base old new frame kept f = record {
  within = f.within;
  cell = f.cell;
  reads = f.reads;
  next = f.next;
  passed = λ i d low h c r. kept c (f.passed i d low h c r);
}

frames-kept : (base : Base) (old new : List Mark) (path : List Frame) → ((c : ℕ) → IsSettled old c → IsSettled new c) → All (IsFrame base old) path
    → All (IsFrame base new) path
frames-kept base old new path kept h = λ k d l. frame-kept base old new (get_or path k d) kept (h k d l)

-- ---- the steps

-- a waiting definition is begun
pub walk-begun : (base : Base) (marks : List Mark) (known sequence : List ℕ) (path : List Frame) (frame : Frame) (p : ℕ) → IsValidBase base
    → IsWalk base marks known sequence path → mark_of marks (target_at base p) ≡ Waiting p → LastReads base (cells_of path) (target_at base p)
    → IsFrameAt base p frame →
    IsWalk base (set marks frame.cell Open) known sequence (path ++ frame ∷ []) × HasAdvanced marks (set marks frame.cell Open)
    × (sum_by steps_left (set marks frame.cell Open) < sum_by steps_left marks) × (mark_of (set marks frame.cell Open) (target_at base p) ≡ Open)
walk-begun base marks known sequence path frame p valid w waits reads f =
    let t : ℕ = target_at base p in
    let new : List Mark = set marks t Open in
    let low : t < length marks = mark-low marks t (λ e. settled_waiting (sym e ∙ waits)) in
    let two : steps_left (mark_of marks t) ≡ 2 = ap steps_left waits in
    let advanced : HasAdvanced marks new = advanced-set marks t Open low (omega arith) in
    let less : sum_by steps_left new < sum_by steps_left marks = left-less marks t Open low (omega arith) in
    let kept : (c : ℕ) → IsSettled marks c → IsSettled new c = advanced-settled marks new advanced in
    let same_cells = cells_of-at base marks path w.frames in
    let at : positions_of (path ++ frame ∷ []) ≡ positions_of path ++ p ∷ [] = positions-push path frame ∙ ap (λ n. positions_of path ++ n ∷ []) f.position in
    let begun : IsFrame base new frame = record {
      within = subst (λ n. n < length base.definitions) (sym f.position) (w.search.waiting t p waits).0;
      cell = f.cell ∙ ap (target_at base) (sym f.position);
      reads = f.reads ∙ ap (λ n. runs_in (term_at base n)) (sym f.position);
      next = let z = f.next in omega arith;
      passed = λ i d l h. let z = f.next in absurd (omega arith);
    } in
    let walk : IsWalk base new known sequence (path ++ frame ∷ []) = record {
      search = subst (λ (ps : List ℕ). IsSearch base new ps sequence) (sym at) (begun-step base marks (positions_of path) sequence p valid w.search waits
          (subst (λ (cs : List ℕ). LastReads base cs t) same_cells reads));
      frames = All-push (IsFrame base new) path frame (frames-kept base marks new path kept w.frames) begun;
      knows = λ g c r. kept c (w.knows g c r);
      known_size = w.known_size;
    } in
    subst (λ n. IsWalk base (set marks n Open) known sequence (path ++ frame ∷ []) × HasAdvanced marks (set marks n Open)
    × (sum_by steps_left (set marks n Open) < sum_by steps_left marks) × (mark_of (set marks n Open) t ≡ Open)) (sym f.cell)
    (walk, advanced, less, mark-same marks t Open low)
  where
    settled_waiting : {q : ℕ} → Settled ≡ Waiting q → ⊥
    settled_waiting e = cc

-- the cells that a frame reads are settled if all of its runs are
frame-read : (base : Base) (marks : List Mark) (frame : Frame) → IsFrame base marks frame
    → AllPassed marks frame.reads.items frame.next (length frame.reads.items) → (c : ℕ) → TermReads (term_at base frame.position) c → IsSettled marks c
frame-read base marks frame f rest c r =
    let k = AnyHas-place (runs_in (term_at base frame.position)) c (runs-have (term_at base frame.position) c r) in
    let low : k.0 < length frame.reads.items = subst (λ (rs : List Run). k.0 < length rs) (sym f.reads) k.1 in
    let here : IsInRun (get_or frame.reads.items k.0 (run 0 0)) c = subst (λ (rs : List Run). IsInRun (get_or rs k.0 (run 0 0)) c) (sym f.reads)
    (k.2 (run 0 0)) in
    elim (cases_lt k.0 frame.next) [ inl l ↦ f.passed k.0 (run 0 0) (omega arith) l c here | inr l ↦ rest k.0 (run 0 0) l low c here ]

-- the last definition of the path is placed, if all cells that it reads are settled
pub walk-placed : (base : Base) (marks : List Mark) (known now sequence : List ℕ) (path : List Frame) (frame : Frame) → IsValidBase base
    → IsWalk base marks known sequence (path ++ frame ∷ []) → KnowsSettled marks now → length now ≡ base.cells
    → AllPassed marks frame.reads.items frame.next (length frame.reads.items) →
    IsWalk base (set marks frame.cell Settled) now (sequence ++ frame.position ∷ []) path × HasAdvanced marks (set marks frame.cell Settled)
    × (sum_by steps_left (set marks frame.cell Settled) < sum_by steps_left marks)
walk-placed base marks known now sequence path frame valid w knows size rest =
    let p : ℕ = frame.position in
    let t : ℕ = target_at base p in
    let new : List Mark = set marks t Settled in
    let f : IsFrame base marks frame = All-last (IsFrame base marks) path frame w.frames in
    let search : IsSearch base marks (positions_of path ++ p ∷ []) sequence = subst (λ (ps : List ℕ). IsSearch base marks ps sequence)
    (positions-push path frame) w.search in
    let here : mark_of marks t ≡ Open = search.on_path t (ap (is_among t) (cells-push base (positions_of path) p)
    ∙ among-new t (cells_at base (positions_of path))) in
    let low : t < length marks = mark-low marks t (λ e. open_settled (sym here ∙ e)) in
    let one : steps_left (mark_of marks t) ≡ 1 = ap steps_left here in
    let advanced : HasAdvanced marks new = advanced-set marks t Settled low (omega arith) in
    let less : sum_by steps_left new < sum_by steps_left marks = left-less marks t Settled low (omega arith) in
    let kept : (c : ℕ) → IsSettled marks c → IsSettled new c = advanced-settled marks new advanced in
    let walk : IsWalk base new now (sequence ++ p ∷ []) path = record {
      search = placed-step base marks (positions_of path) sequence p valid search (frame-read base marks frame f rest);
      frames = frames-kept base marks new path kept (All-front (IsFrame base marks) path frame w.frames);
      knows = λ g c r. kept c (knows g c r);
      known_size = size;
    } in
    subst (λ n. IsWalk base (set marks n Settled) now (sequence ++ p ∷ []) path × HasAdvanced marks (set marks n Settled)
    × (sum_by steps_left (set marks n Settled) < sum_by steps_left marks)) (sym f.cell) (walk, advanced, less)
  where
    open_settled : Open ≡ Settled → ⊥
    open_settled e = cc

-- the last definition of the path stops at an unsettled cell
pub walk-stopped : (base : Base) (marks : List Mark) (known now sequence : List ℕ) (path : List Frame) (frame : Frame) (place c : ℕ) → IsValidBase base
    → IsWalk base marks known sequence (path ++ frame ∷ []) → KnowsSettled marks now → length now ≡ base.cells
    → StopsAt marks frame.reads.items frame.next place c →
    IsWalk base marks now sequence (path ++ record frame { next = place } ∷ []) × LastReads base (cells_of (path ++ record frame { next = place } ∷ [])) c
walk-stopped base marks known now sequence path frame place c valid w knows size stops =
    let moved : Frame = record frame { next = place } in
    let f : IsFrame base marks frame = All-last (IsFrame base marks) path frame w.frames in
    let at : positions_of (path ++ moved ∷ []) ≡ positions_of (path ++ frame ∷ []) = positions-push path moved ∙ sym (positions-push path frame) in
    let there : IsInRun (get_or (runs_in (term_at base frame.position)) place (run 0 0)) c = subst (λ (rs : List Run). IsInRun (get_or rs place (run 0 0)) c)
    f.reads (stops.here (run 0 0)) in
    let low : place < length (runs_in (term_at base frame.position)) = subst (λ (rs : List Run). place < length rs) f.reads stops.within in
    let reads : Reads base frame.cell c = subst (λ n. Reads base n c) (sym f.cell)
    (Reads-target base frame.position c valid.defined_once f.within
    (have-runs (term_at base frame.position) c (AnyHas-at (runs_in (term_at base frame.position)) c place (run 0 0) low there))) in (
      record {
        search = subst (λ (ps : List ℕ). IsSearch base marks ps sequence) (sym at) w.search;
        frames = All-push (IsFrame base marks) path moved (All-front (IsFrame base marks) path frame w.frames) (record {
          within = f.within;
          cell = f.cell;
          reads = f.reads;
          next = let l = stops.within in omega arith;
          passed = λ i d l h. elim (cases_lt i frame.next) [ inl k ↦ f.passed i d l k | inr k ↦ stops.passed i d k h ];
        });
        knows = knows;
        known_size = size;
      },
      subst (λ (cs : List ℕ). LastReads base cs c) (sym (frames-push path moved)) (LastReads-push base (cells_of path) frame.cell c reads),
    )

-- ---- the preconditions of the steps

pub frame-fits : (base : Base) (marks : List Mark) (known sequence : List ℕ) (path : List Frame) (frame : Frame) → IsValidBase base
    → IsWalk base marks known sequence (path ++ frame ∷ []) → RunsFit (length marks) frame.reads.items
frame-fits base marks known sequence path frame valid w =
    let f : IsFrame base marks frame = All-last (IsFrame base marks) path frame w.frames in
    let within : IsWithin base.cells (term_at base frame.position) = valid.terms frame.position (lit Undef)
    (let l = f.within in omega (arith, length-map base.definitions (λ (d : Definition). d.1))) in
    subst (λ n. RunsFit n frame.reads.items) (sym w.search.size)
    (subst (λ (rs : List Run). RunsFit base.cells rs) (sym f.reads) (runs-fit base.cells (term_at base frame.position) within))

pub frame-last : (base : Base) (marks : List Mark) (known sequence : List ℕ) (path : List Frame) (frame : Frame)
    → IsWalk base marks known sequence (path ++ frame ∷ []) → IsFrame base marks frame
frame-last base marks known sequence path frame w = All-last (IsFrame base marks) path frame w.frames

pub frame-low : (base : Base) (marks : List Mark) (known sequence : List ℕ) (path : List Frame) (frame : Frame) → IsValidBase base
    → IsWalk base marks known sequence (path ++ frame ∷ []) → frame.cell < length marks
frame-low base marks known sequence path frame valid w =
    let f = frame-last base marks known sequence path frame w in
    let k = target-within base frame.position valid f.within in
    let s = w.search.size in
    let e = f.cell in
    omega arith

-- ---- the steps on the values that the code has

-- an element with another default
other_default : {X : Type 0} (xs : List X) (i : ℕ) (d e : X) → i < length xs → get_or xs i d ≡ get_or xs i e
other_default [] i d e h = absurd (omega arith)
other_default (x ∷ xs) zero d e h = refl
other_default (x ∷ xs) (suc i) d e h = other_default xs i d e (omega arith)

pub mark-is : (marks : List Mark) (c : ℕ) (m : Mark) → c < length marks → m ≡ get_or marks c m → mark_of marks c ≡ m
mark-is marks c m h e = other_default marks c Settled m h ∙ sym e

-- a slice that was written through a borrow of a whole vector
written : (old new : List ℕ) (n : ℕ) → length new ≡ length old → n ≡ length old → take n (new ++ drop (length new) old) ≡ new
written old new n e h =
    ap (λ (xs : List ℕ). take n (new ++ xs)) (drop_all (length new) old (omega arith)) ∙ ap (take n) (append-nil new) ∙ take_all n new (omega arith)

pub turn-placed : (base : Base) (marks slice : List Mark) (known lent now : List ℕ) (n : ℕ) (sequence after : List ℕ) (path : List Frame) (frame : Frame)
    (reads : List Run) → IsValidBase base → IsWalk base marks known sequence (path ++ frame ∷ []) → slice ≡ marks → reads ≡ frame.reads.items → lent ≡ known
    → length now ≡ length lent → n ≡ length known → KnowsSettled slice now → AllPassed slice reads frame.next (length reads)
    → after ≡ sequence ++ frame.position ∷ [] →
    IsWalk base (set marks frame.cell Settled) (take n (now ++ drop (length now) known)) after path × HasAdvanced marks (set marks frame.cell Settled)
    × (sum_by steps_left (set marks frame.cell Settled) < sum_by steps_left marks)
turn-placed base marks slice known lent now n sequence after path frame reads valid w same_marks same_reads same_known long all knows rest pushed =
    let size : length now ≡ length known = long ∙ ap length same_known in
    let is = written known now n size all in
    let settled : KnowsSettled marks now = subst (λ (ms : List Mark). KnowsSettled ms now) same_marks knows in
    let passed : AllPassed marks frame.reads.items frame.next (length frame.reads.items) = subst (λ (rs : List Run). AllPassed marks rs frame.next (length rs))
    same_reads (subst (λ (ms : List Mark). AllPassed ms reads frame.next (length reads)) same_marks rest) in
    let placed = walk-placed base marks known now sequence path frame valid w settled (size ∙ w.known_size) passed in (
      subst (λ (ks : List ℕ). IsWalk base (set marks frame.cell Settled) ks after path) (sym is)
          (subst (λ (ps : List ℕ). IsWalk base (set marks frame.cell Settled) now ps path) (sym pushed) placed.0),
      placed.1,
      placed.2,
    )

pub turn-stopped : (base : Base) (marks slice : List Mark) (known lent now : List ℕ) (n : ℕ) (sequence : List ℕ) (path after : List Frame) (frame : Frame)
    (reads : List Run) (place c : ℕ) → IsValidBase base → IsWalk base marks known sequence (path ++ frame ∷ []) → slice ≡ marks → reads ≡ frame.reads.items
    → lent ≡ known → length now ≡ length lent → n ≡ length known → KnowsSettled slice now → StopsAt slice reads frame.next place c
    → after ≡ path ++ record frame { next = place } ∷ [] →
    IsWalk base marks (take n (now ++ drop (length now) known)) sequence after × LastReads base (cells_of after) c
turn-stopped base marks slice known lent now n sequence path after frame reads place c valid w same_marks same_reads same_known long all knows stops pushed =
    let size : length now ≡ length known = long ∙ ap length same_known in
    let is = written known now n size all in
    let settled : KnowsSettled marks now = subst (λ (ms : List Mark). KnowsSettled ms now) same_marks knows in
    let here : StopsAt marks frame.reads.items frame.next place c = subst (λ (rs : List Run). StopsAt marks rs frame.next place c) same_reads
    (subst (λ (ms : List Mark). StopsAt ms reads frame.next place c) same_marks stops) in
    let walk = walk-stopped base marks known now sequence path frame place c valid w settled (size ∙ w.known_size) here in
    subst (λ (fs : List Frame). IsWalk base marks (take n (now ++ drop (length now) known)) sequence fs × LastReads base (cells_of fs) c) (sym pushed)
    (subst (λ (ks : List ℕ). IsWalk base marks ks sequence (path ++ record frame { next = place } ∷ [])) (sym is) walk.0, walk.1)

-- an open cell is on the path, where it closes a cycle
pub on-path : (base : Base) (marks : List Mark) (known sequence : List ℕ) (path slice : List Frame) (c : ℕ) (m : Mark) → IsWalk base marks known sequence path
    → (IsSettled marks c → ⊥) → m ≡ get_or marks c m → m ≡ Open → slice ≡ path → is_among c (cells_of slice) ≡ true
on-path base marks known sequence path slice c m w unsettled is begun same_path =
    let mark : mark_of marks c ≡ Open = mark-is marks c m (mark-low marks c unsettled) is ∙ begun in
    ap (λ (fs : List Frame). is_among c (cells_of fs)) same_path ∙ ap (is_among c) (cells_of-at base marks path w.frames) ∙ w.search.begun c mark

pub closed-cycle : (base : Base) (marks : List Mark) (known sequence : List ℕ) (path slice : List Frame) (c : ℕ) (P : Type 0)
    → IsWalk base marks known sequence path → LastReads base (cells_of path) c → slice ≡ path
    → (AreDistinctCells (cells_of slice) → ReadsNext base (cells_of slice) → LastReads base (cells_of slice) c → P) → P
closed-cycle base marks known sequence path slice c P w last same_path shows =
    let is = cells_of-at base marks path w.frames in
    let cells : cells_of slice ≡ cells_of path = ap cells_of same_path in
    shows
    (subst (λ (cs : List ℕ). AreDistinctCells cs) (sym (cells ∙ is)) w.search.path_once)
    (subst (λ (cs : List ℕ). ReadsNext base cs) (sym (cells ∙ is)) w.search.path_reads)
    (subst (λ (cs : List ℕ). LastReads base cs c) (sym cells) last)

-- if the path is empty, the cell of a definition is waiting or settled
pub waits : (base : Base) (marks : List Mark) (known sequence : List ℕ) (p : ℕ) → IsValidBase base → p < length base.definitions
    → IsWalk base marks known sequence [] → (IsSettled marks (target_at base p) → ⊥) → mark_of marks (target_at base p) ≡ Waiting p
waits base marks known sequence p valid low w unsettled = by (mark_of marks (target_at base p)) refl
  where
    by : (m : Mark) → mark_of marks (target_at base p) ≡ m → mark_of marks (target_at base p) ≡ Waiting p
    by Settled e = absurd (unsettled e)
    by Open e = absurd (clash (w.search.begun (target_at base p) e) refl)
    by (Waiting q) e =
        let k = w.search.waiting (target_at base p) q e in
        e ∙ ap Waiting (position-one base q p valid.defined_once k.0 low k.1)

-- there are at most as many definitions as cells
pub few-definitions : (base : Base) → IsValidBase base → length base.definitions ≤ base.cells
few-definitions base valid =
    let all : length (targets_of base) ≡ length base.definitions = length-map base.definitions (λ (d : Definition). d.0) in
    let few = length-le_from_distinct_below (targets_of base) base.cells (distinct (targets_of base) valid.defined_once)
    (λ q h. let k = place-among q (targets_of base) h in subst (λ n. n < base.cells) k.2 (valid.targets k.0 0 k.1)) in
    omega arith
