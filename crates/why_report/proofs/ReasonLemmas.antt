-- Needed cells come after all that they read, and their lines are a reason.
use Rattle.std.proofs.Common.{◌≡◌, ℕ, zero, suc, ◌<◌, ◌≤◌, Bool, true, false, cond, nat_eq, List, [], ◌∷◌, ◌++◌, length, get_or, take, refl, ap, sym, ◌∙◌}
use Rattle.std.proofs.Common.{subst, inl, inr, ◌⊎◌, arith}
use mathlib.Core.Bool.{◌||◌}
use Rattle.std.specs.List.{All, list_any}
use Rattle.std.proofs.lemmas.Bool.{cases_lt}
use Rattle.micro_m.specs.declared.base.Base.{Base}
use Rattle.micro_m.specs.Bases.{is_among, IsValidBase}
use Rattle.micro_m.specs.Reads.{Reads}
use Rattle.micro_m.specs.Values.{Environment}
use Rattle.micro_m.proofs.NumberLemmas.{same, itself, cases, or-false, or-true, clash, among-append}
use Rattle.rule_order.specs.declared.ordered.Ordered.{Ordered}
use Rattle.rule_order.specs.Orders.{IsOrder}
use Rattle.why_report.specs.declared.line.ReportLine.{ReportLine}
use Rattle.why_report.specs.Derivations.{reported_cells, line_at, IsDerived, IsDerivedAt, IsSound}
use Rattle.why_report.specs.Reasons.{AreNeededBy, IsReasonOf, cell_reads, cells_down, is_needed, needed_along, needed_cells, line_over, lines_over, why_lines}
use Rattle.why_report.specs.inner.Held.{AreFollowing}
use Rattle.why_report.proofs.ReadLemmas.{or-left, or-either, or-none, reads-cell, any-read}
use Rattle.why_report.proofs.DownLemmas.{IsDown, not-true, all-left}

-- whether one of these cells reads the cell
abbrev pub any_reads : Base → List ℕ → ℕ → Bool
any_reads base xs d = list_any (λ x. cell_reads base x d) xs

-- ---- cells after those that they read

-- fewer earlier cells suffice, if all that are read remain
pub following-less : (base : Base) (f g cells : List ℕ) → ((c : ℕ) → is_among c g ≡ true → is_among c f ≡ true)
    → ((c : ℕ) → any_reads base cells c ≡ true → is_among c f ≡ true → is_among c g ≡ true) → AreFollowing base f cells → AreFollowing base g cells
following-less base f g [] back on h = tt
following-less base f g (x ∷ cells) back on h = (
  not-true (is_among x g) (λ t. clash (back x t) h.0),
  λ c r. on c (or-left (cell_reads base x c) (any_reads base cells c) (reads-cell base x c r)) (h.1 c r),
  following-less base (x ∷ f) (x ∷ g) cells
      (λ c k. elim (or-either (nat_eq c x) (is_among c g) k) [
        | inl y ↦ or-left (nat_eq c x) (is_among c f) y
        | inr m ↦ or-true (nat_eq c x) (is_among c f)
            (back c m)
      ])
      (λ c r k. elim (or-either (nat_eq c x) (is_among c f) k) [
        | inl y ↦ or-left (nat_eq c x) (is_among c g) y
        | inr m ↦ or-true (nat_eq c x) (is_among c g)
            (on c (or-true (cell_reads base x c) (any_reads base cells c) r) m)
      ])
      h.2,
)

-- a step down: the cell is taken or skipped
pub along-taken : (base : Base) (c d : ℕ) (later ds : List ℕ) → is_needed base c later d ≡ true
    → needed_along base c later (d ∷ ds) ≡ needed_along base c (d ∷ later) ds
along-taken base c d later ds t = ap (λ b. needed_along base c (cond b (d ∷ later) later) ds) t

pub along-passed : (base : Base) (c d : ℕ) (later ds : List ℕ) → is_needed base c later d ≡ false
    → needed_along base c later (d ∷ ds) ≡ needed_along base c later ds
along-passed base c d later ds f = ap (λ b. needed_along base c (cond b (d ∷ later) later) ds) f

pub along-following : (base : Base) (c : ℕ) (later ds : List ℕ) → IsDown base ds → AreFollowing base ds later
    → AreFollowing base [] (needed_along base c later ds)
along-following base c later [] down h = h
along-following base c later (d ∷ ds) down h = cases (is_needed base c later d)
    (λ (t : is_needed base c later d ≡ true).
    subst (AreFollowing base []) (sym (along-taken base c d later ds t))
    (along-following base c (d ∷ later) ds down.2 (down.0, down.1, h)))
    (λ (f : is_needed base c later d ≡ false).
    subst (AreFollowing base []) (sym (along-passed base c d later ds f))
    (along-following base c later ds down.2
    (following-less base (d ∷ ds) ds later
    (λ e k. or-true (nat_eq e d) (is_among e ds) k)
    (λ e r k. elim (or-either (nat_eq e d) (is_among e ds) k) [
      | inl y ↦ absurd (clash (subst (λ n. any_reads base later n ≡ true) (same e d y) r) (or-false (nat_eq d c) (any_reads base later d) f).1)
      | inr m ↦ m
    ])
    h)))

-- ---- all that is needed is found

pub along-closed : (base : Base) (c : ℕ) (later ds : List ℕ) → IsDown base ds
    → ((e : ℕ) → is_needed base c later e ≡ true → (is_among e later || is_among e ds) ≡ true) → (e : ℕ)
    → is_needed base c (needed_along base c later ds) e ≡ true → is_among e (needed_along base c later ds) ≡ true
along-closed base c later [] down h = λ e n. sym (or-none (is_among e later)) ∙ h e n
along-closed base c later (d ∷ ds) down h = cases (is_needed base c later d)
    (λ (t : is_needed base c later d ≡ true) (e : ℕ).
    subst (λ (xs : List ℕ). is_needed base c xs e ≡ true → is_among e xs ≡ true) (sym (along-taken base c d later ds t))
    (along-closed base c (d ∷ later) ds down.2 taken e))
    (λ (f : is_needed base c later d ≡ false) (e : ℕ).
    subst (λ (xs : List ℕ). is_needed base c xs e ≡ true → is_among e xs ≡ true) (sym (along-passed base c d later ds f))
    (along-closed base c later ds down.2 (passed f) e))
  where
    there : (e : ℕ) → is_needed base c later e ≡ true → (is_among e (d ∷ later) || is_among e ds) ≡ true
    there e n = elim (or-either (is_among e later) (is_among e (d ∷ ds)) (h e n)) [
      | inl k ↦ or-left (is_among e (d ∷ later)) (is_among e ds) (or-true (nat_eq e d) (is_among e later) k)
      | inr k ↦ elim (or-either (nat_eq e d) (is_among e ds) k) [
        | inl y ↦ or-left (is_among e (d ∷ later)) (is_among e ds) (or-left (nat_eq e d) (is_among e later) y)
        | inr m ↦ or-true (is_among e (d ∷ later)) (is_among e ds) m
      ]
    ]

    taken : (e : ℕ) → is_needed base c (d ∷ later) e ≡ true → (is_among e (d ∷ later) || is_among e ds) ≡ true
    taken e n = elim (or-either (nat_eq e c) (any_reads base (d ∷ later) e) n) [
      | inl y ↦ there e (or-left (nat_eq e c) (any_reads base later e) y)
      | inr k ↦ elim (or-either (cell_reads base d e) (any_reads base later e) k) [
        | inl r ↦ or-true (is_among e (d ∷ later)) (is_among e ds) (down.1 e (cell-reads-of e r))
        | inr r ↦ there e (or-true (nat_eq e c) (any_reads base later e) r)
      ]
    ]
      where
        cell-reads-of : (e : ℕ) → cell_reads base d e ≡ true → Reads base d e
        cell-reads-of e r = let k = any-read base (d ∷ []) e (or-left (cell_reads base d e) false r) in
            subst (λ x. Reads base x e) (same k.0 d (sym (or-none (nat_eq k.0 d)) ∙ k.1)) k.2

    passed : is_needed base c later d ≡ false → (e : ℕ) → is_needed base c later e ≡ true → (is_among e later || is_among e ds) ≡ true
    passed f e n = elim (or-either (is_among e later) (is_among e (d ∷ ds)) (h e n)) [
      | inl k ↦ or-left (is_among e later) (is_among e ds) k
      | inr k ↦ elim (or-either (nat_eq e d) (is_among e ds) k) [
        | inl y ↦ absurd (clash (subst (λ m. is_needed base c later m ≡ true) (same e d y) n) f)
        | inr m ↦ or-true (is_among e later) (is_among e ds) m
      ]
    ]

-- ---- what is found is needed

along-more : (base : Base) (c x : ℕ) (later ds : List ℕ) → is_among c ds ≡ false → AreNeededBy base c (x ∷ later)
    → AreNeededBy base c (needed_along base c (x ∷ later) ds)
along-more base c x later [] away h = h
along-more base c x later (d ∷ ds) away h =
    let k = or-false (nat_eq c d) (is_among c ds) away in
    cases (is_needed base c (x ∷ later) d)
    (λ (t : is_needed base c (x ∷ later) d ≡ true).
    subst (AreNeededBy base c) (sym (along-taken base c d (x ∷ later) ds t))
    (along-more base c d (x ∷ later) ds k.1 (
      elim (or-either (nat_eq d c) (any_reads base (x ∷ later) d) t) [
        | inl y ↦ absurd (clash (subst (λ n. nat_eq c n ≡ true) (sym (same d c y)) (itself c)) k.0)
        | inr r ↦ any-read base (x ∷ later) d r
      ],
      h,
    )))
    (λ (f : is_needed base c (x ∷ later) d ≡ false).
    subst (AreNeededBy base c) (sym (along-passed base c d (x ∷ later) ds f))
    (along-more base c x later ds k.1 h))

along-first : (base : Base) (c : ℕ) (ds : List ℕ) → IsDown base ds → is_among c ds ≡ true → AreNeededBy base c (needed_along base c [] ds)
along-first base c [] down h = absurd (cc)
along-first base c (d ∷ ds) down h = cases (nat_eq d c)
    (λ (t : nat_eq d c ≡ true).
    let e : d ≡ c = same d c t in
    subst (AreNeededBy base c) (sym (along-taken base c d [] ds (or-left (nat_eq d c) false t)))
    (along-more base c d [] ds (subst (λ n. is_among n ds ≡ false) e down.0) e))
    (λ (f : nat_eq d c ≡ false).
    subst (AreNeededBy base c) (sym (along-passed base c d [] ds (ap (λ b. b || false) f)))
    (along-first base c ds down.2
    (elim (or-either (nat_eq c d) (is_among c ds) h) [
      | inl y ↦ absurd (clash (subst (λ n. nat_eq n c ≡ true) (same c d y) (itself c)) f)
      | inr m ↦ m
    ])))

along-part : (base : Base) (c : ℕ) (later ds : List ℕ) (e : ℕ) → is_among e (needed_along base c later ds) ≡ true
    → (is_among e later ≡ true) ⊎ (is_among e ds ≡ true)
along-part base c later [] e h = inl h
along-part base c later (d ∷ ds) e h = cases (is_needed base c later d)
    (λ (t : is_needed base c later d ≡ true).
    elim (along-part base c (d ∷ later) ds e (subst (λ (xs : List ℕ). is_among e xs ≡ true) (along-taken base c d later ds t) h)) [
      | inl k ↦ elim (or-either (nat_eq e d) (is_among e later) k) [ inl y ↦ inr (or-left (nat_eq e d) (is_among e ds) y) | inr m ↦ inl m ]
      | inr k ↦ inr (or-true (nat_eq e d) (is_among e ds) k)
    ])
    (λ (f : is_needed base c later d ≡ false).
    elim (along-part base c later ds e (subst (λ (xs : List ℕ). is_among e xs ≡ true) (along-passed base c d later ds f) h)) [
      | inl k ↦ inl k
      | inr k ↦ inr (or-true (nat_eq e d) (is_among e ds) k)
    ])

-- ---- the needed cells of an ordered base

pub needed-following : (ordered : Ordered) (c : ℕ) → IsValidBase ordered.base → IsOrder ordered.base ordered.sequence
    → AreFollowing ordered.base [] (needed_cells ordered c)
needed-following ordered c valid order = along-following ordered.base c [] (cells_down ordered) (all-left ordered valid order).down tt

pub needed-closed : (ordered : Ordered) (c : ℕ) → IsValidBase ordered.base → IsOrder ordered.base ordered.sequence → c < ordered.base.cells → (e : ℕ)
    → is_needed ordered.base c (needed_cells ordered c) e ≡ true → is_among e (needed_cells ordered c) ≡ true
needed-closed ordered c valid order low =
    let left = all-left ordered valid order in
    along-closed ordered.base c [] (cells_down ordered) left.down
    (λ e n. elim (or-either (nat_eq e c) false n) [
      | inl y ↦ left.covers e (subst (λ m. m < ordered.base.cells) (sym (same e c y)) low) refl
      | inr k ↦ absurd
          (cc)
    ])

pub needed-below : (ordered : Ordered) (c : ℕ) → IsValidBase ordered.base → IsOrder ordered.base ordered.sequence → (e : ℕ)
    → is_among e (needed_cells ordered c) ≡ true → e < ordered.base.cells
needed-below ordered c valid order e h = elim (along-part ordered.base c [] (cells_down ordered) e h)
    [ inl k ↦ absurd (cc) | inr k ↦ (all-left ordered valid order).within e k ]

pub needed-all-below : (ordered : Ordered) (c : ℕ) → IsValidBase ordered.base → IsOrder ordered.base ordered.sequence
    → All (λ e. e < ordered.base.cells) (needed_cells ordered c)
needed-all-below ordered c valid order k d low = needed-below ordered c valid order (get_or (needed_cells ordered c) k d) (at (needed_cells ordered c) k d low)
  where
    at : (xs : List ℕ) (i d : ℕ) → i < length xs → is_among (get_or xs i d) xs ≡ true
    at [] i d h = absurd (omega arith)
    at (x ∷ xs) zero d h = or-left (nat_eq x x) (is_among x xs) (itself x)
    at (x ∷ xs) (suc i) d h = or-true (nat_eq (get_or xs i d) x) (is_among (get_or xs i d) xs) (at xs i d (omega arith))

-- ---- their lines

pub reported-append : (lines more : List ReportLine) → reported_cells (lines ++ more) ≡ reported_cells lines ++ reported_cells more
reported-append [] more = refl
reported-append (l ∷ lines) more = ap (λ (cs : List ℕ). l.cell ∷ cs) (reported-append lines more)

pub reported-more : (lines : List ReportLine) (line : ReportLine) (c : ℕ)
    → is_among c (reported_cells (lines ++ line ∷ [])) ≡ (is_among c (reported_cells lines) || (nat_eq c line.cell || false))
reported-more lines line c = ap (is_among c) (reported-append lines (line ∷ [])) ∙ among-append c (reported_cells lines) (line.cell ∷ [])

-- cells that come after another come after its line
pub following-line : (base : Base) (lines : List ReportLine) (line : ReportLine) (cells : List ℕ) → AreFollowing base (line.cell ∷ reported_cells lines) cells
    → AreFollowing base (reported_cells (lines ++ line ∷ [])) cells
following-line base lines line cells h =
    following-less base (line.cell ∷ reported_cells lines) (reported_cells (lines ++ line ∷ [])) cells
    (λ c k. elim (or-either (is_among c (reported_cells lines)) (nat_eq c line.cell || false) (sym (reported-more lines line c) ∙ k)) [
      | inl m ↦ or-true (nat_eq c line.cell) (is_among c (reported_cells lines)) m
      | inr m ↦ or-left (nat_eq c line.cell) (is_among c (reported_cells lines)) (sym (or-none (nat_eq c line.cell)) ∙ m)
    ])
    (λ c r k. reported-more lines line c ∙ elim (or-either (nat_eq c line.cell) (is_among c (reported_cells lines)) k) [
      | inl y ↦ or-true (is_among c (reported_cells lines)) (nat_eq c line.cell || false) (or-left (nat_eq c line.cell) false y)
      | inr m ↦ or-left (is_among c (reported_cells lines)) (nat_eq c line.cell || false) m
    ])
    h

pub lines-cells : (base : Base) (given : Environment) (earlier : List ReportLine) (cells : List ℕ)
    → reported_cells (lines_over base given earlier cells) ≡ reported_cells earlier ++ cells
lines-cells base given earlier [] = sym (append-none (reported_cells earlier))
  where
    append-none : (xs : List ℕ) → xs ++ [] ≡ xs
    append-none [] = refl
    append-none (x ∷ xs) = ap (λ (ys : List ℕ). x ∷ ys) (append-none xs)
lines-cells base given earlier (c ∷ cells) =
    lines-cells base given (earlier ++ line_over base given earlier c ∷ []) cells
    ∙ ap (λ (xs : List ℕ). xs ++ cells) (reported-append earlier (line_over base given earlier c ∷ []))
    ∙ append-assoc (reported_cells earlier) (c ∷ []) cells
  where
    append-assoc : (xs ys zs : List ℕ) → (xs ++ ys) ++ zs ≡ xs ++ (ys ++ zs)
    append-assoc [] ys zs = refl
    append-assoc (x ∷ xs) ys zs = ap (λ (ws : List ℕ). x ∷ ws) (append-assoc xs ys zs)

-- sound lines, and one more that follows
take-front : (xs : List ReportLine) (l : ReportLine) (p : ℕ) → p ≤ length xs → take p (xs ++ l ∷ []) ≡ take p xs
take-front [] l zero h = refl
take-front [] l (suc p) h = absurd (omega arith)
take-front (x ∷ xs) l zero h = refl
take-front (x ∷ xs) l (suc p) h = ap (λ (ys : List ReportLine). x ∷ ys) (take-front xs l p (omega arith))

take-whole : (xs : List ReportLine) → take (length xs) xs ≡ xs
take-whole [] = refl
take-whole (x ∷ xs) = ap (λ (ys : List ReportLine). x ∷ ys) (take-whole xs)

line-front : (xs : List ReportLine) (l : ReportLine) (p : ℕ) → p < length xs → line_at (xs ++ l ∷ []) p ≡ line_at xs p
line-front [] l p h = absurd (omega arith)
line-front (x ∷ xs) l zero h = refl
line-front (x ∷ xs) l (suc p) h = line-front xs l p (omega arith)

line-last : (xs : List ReportLine) (l : ReportLine) → line_at (xs ++ l ∷ []) (length xs) ≡ l
line-last [] l = refl
line-last (x ∷ xs) l = line-last xs l

length-more : (xs : List ReportLine) (l : ReportLine) → length (xs ++ l ∷ []) ≡ suc (length xs)
length-more [] l = refl
length-more (x ∷ xs) l = ap (λ n. suc n) (length-more xs l)

sound-more : (base : Base) (given : Environment) (lines : List ReportLine) (l : ReportLine) → IsSound base given lines → IsDerived base given lines l
    → IsSound base given (lines ++ l ∷ [])
sound-more base given lines l sound here p low = elim (cases_lt p (length lines)) [
  | inl less ↦ subst (λ (earlier : List ReportLine). IsDerived base given earlier (line_at (lines ++ l ∷ []) p)) (sym (take-front lines l p (omega arith)))
      (subst (λ (line : ReportLine). IsDerived base given (take p lines) line) (sym (line-front lines l p less)) (sound p less))
  | inr more ↦
      let long = length-more lines l in
      let is : p ≡ length lines = omega arith in
      subst (λ n. IsDerivedAt base given (lines ++ l ∷ []) n) (sym is)
      (subst (λ (earlier : List ReportLine). IsDerived base given earlier (line_at (lines ++ l ∷ []) (length lines)))
      (sym (take-front lines l (length lines) (omega arith) ∙ take-whole lines))
      (subst (λ (line : ReportLine). IsDerived base given lines line) (sym (line-last lines l)) here))
]

pub lines-sound : (base : Base) (given : Environment) (earlier : List ReportLine) (cells : List ℕ) → IsSound base given earlier
    → AreFollowing base (reported_cells earlier) cells → IsSound base given (lines_over base given earlier cells)
lines-sound base given earlier [] sound h = sound
lines-sound base given earlier (c ∷ cells) sound h =
    let line : ReportLine = line_over base given earlier c in
    lines-sound base given (earlier ++ line ∷ []) cells
    (sound-more base given earlier line sound record { reported_once = h.0; reads_earlier = h.1; has_value = refl })
    (following-line base earlier line cells h.2)

-- the reason of a cell's value
pub why-reason : (ordered : Ordered) (given : Environment) (c : ℕ) → IsValidBase ordered.base → IsOrder ordered.base ordered.sequence → c < ordered.base.cells
    → IsReasonOf ordered.base given c (why_lines ordered given c)
why-reason ordered given c valid order low =
    let left = all-left ordered valid order in
    record {
      sound = lines-sound ordered.base given [] (needed_cells ordered c) (λ p h. absurd (omega arith)) (needed-following ordered c valid order);
      needed = subst (AreNeededBy ordered.base c) (sym (lines-cells ordered.base given [] (needed_cells ordered c)))
          (along-first ordered.base c (cells_down ordered) left.down (left.covers c low refl));
    }

pub why-below : (ordered : Ordered) (given : Environment) (c : ℕ) → IsValidBase ordered.base → IsOrder ordered.base ordered.sequence
    → All (λ line. line.cell < ordered.base.cells) (why_lines ordered given c)
why-below ordered given c valid order k d low =
    needed-below ordered c valid order (get_or lines k d).cell
    (subst (λ (xs : List ℕ). is_among (get_or lines k d).cell xs ≡ true) (lines-cells ordered.base given [] (needed_cells ordered c)) (at lines k d low))
  where
    lines : List ReportLine
    lines = why_lines ordered given c

    at : (ls : List ReportLine) (i : ℕ) (d : ReportLine) → i < length ls → is_among (get_or ls i d).cell (reported_cells ls) ≡ true
    at [] i d h = absurd (omega arith)
    at (l ∷ ls) zero d h = or-left (nat_eq l.cell l.cell) (is_among l.cell (reported_cells ls)) (itself l.cell)
    at (l ∷ ls) (suc i) d h = or-true (nat_eq (get_or ls i d).cell l.cell) (is_among (get_or ls i d).cell (reported_cells ls)) (at ls i d (omega arith))
