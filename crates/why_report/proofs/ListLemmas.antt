-- The lines before a position: their cells and values.
use Rattle.std.proofs.Common.{◌≡◌, ℕ, zero, suc, ◌<◌, ◌≤◌, ◌++◌, true, false, cond, nat_eq, List, [], ◌∷◌, length, get_or, take, refl, ap, sym, ◌∙◌, subst}
use Rattle.std.proofs.Common.{arith}
use mathlib.Core.Bool.{◌||◌}
use Rattle.std.proofs.lemmas.List.{get_or-take, take-take, length-take-le}
use Rattle.std.proofs.lemmas.Map.Steps.{length-le_from_distinct_below}
use Rattle.std.specs.List.{All}
use Rattle.micro_m.specs.declared.base.Base.{Base}
use Rattle.micro_m.specs.Bases.{is_among, AreDistinctCells}
use Rattle.micro_m.specs.Values.{Environment}
use Rattle.micro_m.proofs.NumberLemmas.{same, itself, cases, or-false, clash, distinct, AreDistinct-push}
use Rattle.why_report.specs.declared.line.ReportLine.{ReportLine}
use Rattle.why_report.specs.Derivations.{reported_cells, reported_values, line_at, IsDerived, IsDerivedAt, IsSound}

-- a cell that lines have, and the first line that has it
pub reported-at : (lines : List ReportLine) (c : ℕ) → is_among c (reported_cells lines) ≡ true → (q : ℕ) × (q < length lines)
    × ((d : ReportLine) → (get_or lines q d).cell ≡ c) × ((d : ReportLine) → (get_or lines q d).value ≡ reported_values lines c)
reported-at [] c h = absurd (cc)
reported-at (line ∷ lines) c h = cases (nat_eq c line.cell)
    (λ (t : nat_eq c line.cell ≡ true). (0, omega arith, λ d. sym (same c line.cell t), λ d. sym (ap (λ b. cond b line.value (reported_values lines c)) t)))
    (λ (f : nat_eq c line.cell ≡ false).
    let k = reported-at lines c (ap (λ b. b || is_among c (reported_cells lines)) (sym f) ∙ h) in
    (suc k.0, omega arith, k.2, λ d. k.3 d ∙ sym (ap (λ b. cond b line.value (reported_values lines c)) f)))

-- one more line adds its cell
pub cells-more : (lines : List ReportLine) (i : ℕ) → i < length lines → reported_cells (take (suc i) lines) ≡ reported_cells (take i lines)
    ++ (line_at lines i).cell ∷ []
cells-more [] i low = absurd (omega arith)
cells-more (l ∷ lines) zero low = refl
cells-more (l ∷ lines) (suc i) low = ap (λ (cs : List ℕ). l.cell ∷ cs) (cells-more lines i (omega arith))

-- a line's cell after another cell of the list
swap : (c a b : ℕ) {X : Type 0} (x y z : X) → nat_eq b a ≡ false → cond (nat_eq c a) x (cond (nat_eq c b) y z) ≡ cond (nat_eq c b) y (cond (nat_eq c a) x z)
swap c a b x y z f = cases (nat_eq c a)
    (λ (t : nat_eq c a ≡ true).
    let is : c ≡ a = same c a t in
    let not_b : nat_eq c b ≡ false = cases (nat_eq c b)
    (λ (u : nat_eq c b ≡ true). absurd (clash (subst (λ n. nat_eq b n ≡ true) (sym (same c b u) ∙ is) (itself b)) f))
    (λ (g : nat_eq c b ≡ false). g) in
    ap (λ e. cond e x (cond (nat_eq c b) y z)) t
    ∙ sym (ap (λ e. cond e y (cond (nat_eq c a) x z)) not_b ∙ ap (λ e. cond e x z) t))
    (λ (g : nat_eq c a ≡ false).
    ap (λ e. cond e x (cond (nat_eq c b) y z)) g
    ∙ sym (ap (λ e. cond (nat_eq c b) y (cond e x z)) g))

-- one more line, of a new cell, adds its value
pub values-more : (lines : List ReportLine) (i c : ℕ) → i < length lines → is_among (line_at lines i).cell (reported_cells (take i lines)) ≡ false
    → reported_values (take (suc i) lines) c ≡ cond (nat_eq c (line_at lines i).cell) (line_at lines i).value (reported_values (take i lines) c)
values-more [] i c low away = absurd (omega arith)
values-more (l ∷ lines) zero c low away = refl
values-more (l ∷ lines) (suc i) c low away =
    let line : ReportLine = line_at lines i in
    let k = or-false (nat_eq line.cell l.cell) (is_among line.cell (reported_cells (take i lines))) away in
    ap (λ v. cond (nat_eq c l.cell) l.value v) (values-more lines i c (omega arith) k.1)
    ∙ swap c l.cell line.cell l.value line.value (reported_values (take i lines) c) k.0

-- ---- lines that follow

-- the lines before a position have distinct cells, if each follows
pub reported-distinct : (base : Base) (given : Environment) (lines : List ReportLine) (k : ℕ) → ((p : ℕ) → p < k → IsDerivedAt base given lines p)
    → k ≤ length lines → AreDistinctCells (reported_cells (take k lines))
reported-distinct base given lines zero sound low = tt
reported-distinct base given lines (suc k) sound low =
    subst AreDistinctCells (sym (cells-more lines k (omega arith)))
    (AreDistinct-push (reported_cells (take k lines)) (line_at lines k).cell
    (reported-distinct base given lines k (λ p h. sound p (omega arith)) (omega arith))
    (sound k (omega arith)).reported_once)

-- they are at most as many as the cells
pub reported-few : (base : Base) (given : Environment) (lines : List ReportLine) (k : ℕ) → ((p : ℕ) → p < k → IsDerivedAt base given lines p) → k ≤ length lines
    → All (λ line. line.cell < base.cells) lines → k ≤ base.cells
reported-few base given lines k sound low cells =
    let few = length-le_from_distinct_below (reported_cells (take k lines)) base.cells
    (distinct (reported_cells (take k lines)) (reported-distinct base given lines k sound low))
    (λ q h.
    let at = reported-at (take k lines) q h in
    let long = length-take-le k lines low in
    let here : get_or (take k lines) at.0 (line_at lines 0) ≡ get_or lines at.0 (line_at lines 0) = get_or-take k lines at.0 (line_at lines 0) (omega arith) in
    let below = cells at.0 (line_at lines 0) (omega arith) in
    subst (λ n. n < base.cells) (ap (λ (l : ReportLine). l.cell) (sym here) ∙ at.2 (line_at lines 0)) below) in
    let long = length-take-le k lines low in
    let same_length = reported-length (take k lines) in
    omega arith
  where
    reported-length : (ls : List ReportLine) → length (reported_cells ls) ≡ length ls
    reported-length [] = refl
    reported-length (l ∷ ls) = ap (λ n. suc n) (reported-length ls)

-- a line that follows in a list follows in its prefix
pub sound-part : (base : Base) (given : Environment) (lines : List ReportLine) (k : ℕ) → ((p : ℕ) → p < k → IsDerivedAt base given lines p) → k ≤ length lines
    → IsSound base given (take k lines)
sound-part base given lines k sound low p h =
    let long = length-take-le k lines low in
    let below : p < k = omega arith in
    subst (λ (earlier : List ReportLine). IsDerived base given earlier (line_at (take k lines) p)) (sym (take-take p k lines (omega arith)))
    (subst (λ (line : ReportLine). IsDerived base given (take p lines) line) (sym (get_or-take k lines p (line_at [] 0) below))
    (sound p below))
