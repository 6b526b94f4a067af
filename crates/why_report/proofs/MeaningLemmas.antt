-- Each value of a sound derivation is its cell's value by the base's meaning: the lines with a
-- definition, up to it, are turns enough, and they are no more than the definitions.
use Rattle.std.proofs.Common.{◌≡◌, ℕ, zero, suc, ◌+◌, ◌-◌, ◌<◌, ◌≤◌, true, false, nat_eq, List, [], ◌∷◌, length, get_or, take, Option, None, Some, refl, ap}
use Rattle.std.proofs.Common.{sym, ◌∙◌, subst, arith}
use mathlib.Core.Bool.{◌||◌}
use Rattle.std.proofs.lemmas.List.{get_or-take, length-take-le, get_or_default}
use Rattle.std.proofs.Math.ListN.{length-map}
use Rattle.std.specs.Option.{option_map_or, IsSomeAnd}
use Rattle.std.specs.List.{All}
use Rattle.micro_m.specs.Trees.{Tree}
use Rattle.micro_m.specs.declared.base.Base.{Base}
use Rattle.micro_m.specs.Bases.{Definition, is_among, AreDistinctCells, targets_of, definition_of}
use Rattle.micro_m.specs.Reads.{TermReads}
use Rattle.micro_m.specs.Values.{Environment, term_value, value_in, value_of}
use Rattle.micro_m.proofs.NumberLemmas.{same, cases, or-false, among-at, length-le_from_among}
use Rattle.micro_m.proofs.PositionLemmas.{definition_of-position}
use Rattle.micro_m.proofs.TermLemmas.{term_value-same}
use Rattle.micro_m.proofs.TurnLemmas.{option_cases}
use Rattle.why_report.specs.declared.line.ReportLine.{ReportLine}
use Rattle.why_report.specs.Derivations.{reported_cells, reported_values, line_at, IsSound}
use Rattle.why_report.proofs.ListLemmas.{reported-at, reported-distinct}

-- ---- the cells that have definitions

-- a cell before others, if there is a definition of it
abbrev pushed : Option Tree → ℕ → List ℕ → List ℕ
pushed None c cs = cs
pushed (Some t) c cs = c ∷ cs

abbrev defined_among : Base → List ℕ → List ℕ
defined_among base [] = []
defined_among base (c ∷ cs) = pushed (definition_of base c) c (defined_among base cs)

abbrev weight : Option Tree → ℕ
weight None = 0
weight (Some t) = 1

length-pushed : (o : Option Tree) (c : ℕ) (cs : List ℕ) → length (pushed o c cs) ≡ length cs + weight o
length-pushed None c cs = omega arith
length-pushed (Some t) c cs = omega arith

pushed-away : (o : Option Tree) (c x : ℕ) (cs : List ℕ) → nat_eq x c ≡ false → is_among x cs ≡ false → is_among x (pushed o c cs) ≡ false
pushed-away None c x cs f h = h
pushed-away (Some t) c x cs f h = ap (λ b. b || is_among x cs) f ∙ h

pushed-distinct : (o : Option Tree) (c : ℕ) (cs : List ℕ) → is_among c cs ≡ false → AreDistinctCells cs → AreDistinctCells (pushed o c cs)
pushed-distinct None c cs h d = d
pushed-distinct (Some t) c cs h d = (h, d)

defined-away : (base : Base) (x : ℕ) (cs : List ℕ) → is_among x cs ≡ false → is_among x (defined_among base cs) ≡ false
defined-away base x [] h = refl
defined-away base x (c ∷ cs) h =
    let k = or-false (nat_eq x c) (is_among x cs) h in
    pushed-away (definition_of base c) c x (defined_among base cs) k.0 (defined-away base x cs k.1)

defined-distinct : (base : Base) (cs : List ℕ) → AreDistinctCells cs → AreDistinctCells (defined_among base cs)
defined-distinct base [] d = tt
defined-distinct base (c ∷ cs) d = pushed-distinct (definition_of base c) c (defined_among base cs) (defined-away base c cs d.0) (defined-distinct base cs d.1)

target-among : (base : Base) (c : ℕ) (t : Tree) → definition_of base c ≡ Some t → is_among c (targets_of base) ≡ true
target-among base c t s =
    let k = definition_of-position base c t s in
    let long : length (targets_of base) ≡ length base.definitions = length-map base.definitions (λ (d : Definition). d.0) in
    let low = k.1 in
    subst (λ n. is_among n (targets_of base) ≡ true) k.2 (among-at (targets_of base) k.0 (omega arith))

defined-target : (base : Base) (x : ℕ) (cs : List ℕ) → is_among x (defined_among base cs) ≡ true → is_among x (targets_of base) ≡ true
defined-target base x [] h = absurd (cc)
defined-target base x (c ∷ cs) h = option_cases (definition_of base c)
    (λ (n : definition_of base c ≡ None). defined-target base x cs (sym (ap (λ o. is_among x (pushed o c (defined_among base cs))) n) ∙ h))
    (λ t (s : definition_of base c ≡ Some t).
    let here : is_among x (c ∷ defined_among base cs) ≡ true = sym (ap (λ o. is_among x (pushed o c (defined_among base cs))) s) ∙ h in
    cases (nat_eq x c)
    (λ (e : nat_eq x c ≡ true). subst (λ n. is_among n (targets_of base) ≡ true) (sym (same x c e)) (target-among base c t s))
    (λ (f : nat_eq x c ≡ false). defined-target base x cs (ap (λ b. b || is_among x (defined_among base cs)) (sym f) ∙ here)))

-- ---- how many of the first lines have a definition

abbrev rank : Base → List ReportLine → ℕ → ℕ
rank base lines k = length (defined_among base (reported_cells (take k lines)))

rank-more : (base : Base) (lines : List ReportLine) (k : ℕ) → k < length lines
    → rank base lines (suc k) ≡ rank base lines k + weight (definition_of base (line_at lines k).cell)
rank-more base [] k low = absurd (omega arith)
rank-more base (l ∷ lines) zero low = length-pushed (definition_of base l.cell) l.cell []
rank-more base (l ∷ lines) (suc k) low =
    let i = rank-more base lines k (omega arith) in
    let a = length-pushed (definition_of base l.cell) l.cell (defined_among base (reported_cells (take (suc k) lines))) in
    let b = length-pushed (definition_of base l.cell) l.cell (defined_among base (reported_cells (take k lines))) in
    omega arith

rank-grows : (base : Base) (lines : List ReportLine) (d q : ℕ) → d + q ≤ length lines → rank base lines q ≤ rank base lines (d + q)
rank-grows base lines zero q low =
    let self : rank base lines q ≤ rank base lines q = omega arith in
    let is : q ≡ 0 + q = omega arith in
    subst (λ n. rank base lines q ≤ rank base lines n) is self
rank-grows base lines (suc d) q low =
    let i = rank-grows base lines d q (omega arith) in
    let m = rank-more base lines (d + q) (omega arith) in
    let is : suc (d + q) ≡ suc d + q = omega arith in
    subst (λ n. rank base lines q ≤ rank base lines n) is (omega arith)

rank-below : (base : Base) (lines : List ReportLine) (q p : ℕ) → q < p → p ≤ length lines → rank base lines (suc q) ≤ rank base lines p
rank-below base lines q p h low =
    let is : (p - suc q) + suc q ≡ p = omega arith in
    subst (λ n. rank base lines (suc q) ≤ rank base lines n) is (rank-grows base lines (p - suc q) (suc q) (omega arith))

rank-few : (base : Base) (given : Environment) (lines : List ReportLine) (k : ℕ) → IsSound base given lines → k ≤ length lines
    → rank base lines k ≤ length base.definitions
rank-few base given lines k sound low =
    let cs : List ℕ = reported_cells (take k lines) in
    let few = length-le_from_among (defined_among base cs) (targets_of base)
    (defined-distinct base cs (reported-distinct base given lines k (λ p h. sound p (omega arith)) low))
    (λ x h. defined-target base x cs h) in
    let long : length (targets_of base) ≡ length base.definitions = length-map base.definitions (λ (d : Definition). d.0) in
    omega arith

-- ---- values

value-by : (base : Base) (given : Environment) (lines : List ReportLine) → IsSound base given lines → (k p n : ℕ) → p < k → p < length lines
    → rank base lines (suc p) < n → value_in base given n (line_at lines p).cell ≡ (line_at lines p).value
value-by base given lines sound zero p n h low enough = absurd (omega arith)
value-by base given lines sound (suc k) p zero h low enough = absurd (omega arith)
value-by base given lines sound (suc k) p (suc m) h low enough =
    let line : ReportLine = line_at lines p in
    option_cases (definition_of base line.cell)
    (λ (none : definition_of base line.cell ≡ None).
    ap (λ o. option_map_or (term_value (value_in base given m)) o (given line.cell)) none
    ∙ sym ((sound p low).has_value ∙ ap (λ o. option_map_or (term_value (reported_values (take p lines))) o (given line.cell)) none))
    (λ t (some : definition_of base line.cell ≡ Some t).
    ap (λ o. option_map_or (term_value (value_in base given m)) o (given line.cell)) some
    ∙ term_value-same t (value_in base given m) (reported_values (take p lines))
    (λ c r.
    let among = (sound p low).reads_earlier c (subst (λ o. IsSomeAnd o (λ u. TermReads u c)) (sym some) r) in
    let q = reported-at (take p lines) c among in
    let long = length-take-le p lines (omega arith) in
    let before : q.0 < p = omega arith in
    let here : get_or (take p lines) q.0 (line_at [] 0) ≡ line_at lines q.0 = get_or-take p lines q.0 (line_at [] 0) before in
    let grown = rank-below base lines q.0 p before (omega arith) in
    let more = rank-more base lines p low in
    let one : weight (definition_of base line.cell) ≡ 1 = ap weight some in
    ap (value_in base given m) (sym (q.2 (line_at [] 0)) ∙ ap (λ (l : ReportLine). l.cell) here)
    ∙ value-by base given lines sound k q.0 m (omega arith) (omega arith) (omega arith)
    ∙ ap (λ (l : ReportLine). l.value) (sym here) ∙ q.3 (line_at [] 0))
    ∙ sym ((sound p low).has_value ∙ ap (λ o. option_map_or (term_value (reported_values (take p lines))) o (given line.cell)) some))

pub sound-values : (base : Base) (given : Environment) (lines : List ReportLine) → IsSound base given lines
    → All (λ line. line.value ≡ value_of base given line.cell) lines
sound-values base given lines sound k d low =
    let few = rank-few base given lines (suc k) sound (omega arith) in
    subst (λ (line : ReportLine). line.value ≡ value_of base given line.cell) (get_or_default lines k (line_at [] 0) d low)
    (sym (value-by base given lines sound (suc k) k (length base.definitions + 1) (omega arith) low (omega arith)))
