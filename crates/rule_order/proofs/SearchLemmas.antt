-- The steps of the search, beginning and placing a definition, preserve the invariant of the marks,
-- the path and the sequence.
use Rattle.std.proofs.Common.{◌≡◌, ℕ, zero, suc, ◌<◌, ◌≤◌, true, false, nat_eq, List, [], ◌∷◌, ◌++◌, length, get_or, set, refl, ap, sym, ◌∙◌, subst, inl, inr}
use Rattle.std.proofs.Common.{◌⊎◌, arith}
use mathlib.Core.Bool.{◌||◌}
use Rattle.std.proofs.lemmas.List.{length-set, get_or-set_same, get_or-set_other}
use Rattle.std.proofs.lemmas.List.Sums.{sum_by-set}
use Rattle.std.specs.List.{sum_by}
use Rattle.micro_m.specs.declared.base.Base.{Base}
use Rattle.micro_m.specs.Bases.{is_among, AreDistinctCells, target_at, term_at, IsValidBase}
use Rattle.micro_m.specs.Reads.{TermReads, Reads}
use Rattle.micro_m.proofs.NumberLemmas.{same, itself, cases, or-true, clash, among-append, AreDistinct-push}
use Rattle.micro_m.proofs.PositionLemmas.{position-one}
use Rattle.rule_order.specs.declared.search.Mark.{Mark}
use Rattle.rule_order.specs.declared.search.Mark.TheVariants.{Settled, Waiting, Open}
use Rattle.rule_order.specs.Orders.{cells_at, ReadsEarlier, IsOrder}
use Rattle.rule_order.specs.inner.Marks.{mark_of, steps_left, IsSettled, HasAdvanced, ReadsNext, LastReads, IsSearch}

-- ---- numbers

pub eq_cases : (a b : ℕ) {P : Type 0} → (a ≡ b → P) → ((a ≡ b → ⊥) → P) → P
eq_cases a b y n = cases (nat_eq a b)
    (λ (t : nat_eq a b ≡ true). y (same a b t))
    (λ (f : nat_eq a b ≡ false). n (λ e. clash (subst (λ x. nat_eq a x ≡ true) e (itself a)) f))

pub among-old : (c x : ℕ) (xs : List ℕ) → is_among c xs ≡ true → is_among c (xs ++ x ∷ []) ≡ true
among-old c x xs h = among-append c xs (x ∷ []) ∙ ap (λ b. b || (nat_eq c x || false)) h

pub among-new : (x : ℕ) (xs : List ℕ) → is_among x (xs ++ x ∷ []) ≡ true
among-new x xs = among-append x xs (x ∷ []) ∙ or-true (is_among x xs) (nat_eq x x || false) (ap (λ b. b || false) (itself x))

pub among-push : (c x : ℕ) (xs : List ℕ) → is_among c (xs ++ x ∷ []) ≡ true → (is_among c xs ≡ true) ⊎ (c ≡ x)
among-push c x xs h = cases (is_among c xs)
    (λ (t : is_among c xs ≡ true). inl t)
    (λ (f : is_among c xs ≡ false).
    let k : (nat_eq c x || false) ≡ true = sym (among-append c xs (x ∷ []) ∙ ap (λ b. b || (nat_eq c x || false)) f) ∙ h in
    inr (cases (nat_eq c x) (λ (t : nat_eq c x ≡ true). same c x t) (λ (g : nat_eq c x ≡ false). absurd (clash k (ap (λ b. b || false) g)))))

front-distinct : (xs : List ℕ) (x : ℕ) → AreDistinctCells (xs ++ x ∷ []) → AreDistinctCells xs × (is_among x xs ≡ false)
front-distinct [] x d = (tt, refl)
front-distinct (y ∷ ys) x d =
    let k = front-distinct ys x d.1 in
    let away : is_among y ys ≡ false = cases (is_among y ys)
    (λ (t : is_among y ys ≡ true). absurd (clash (among-old y x ys t) d.0))
    (λ (f : is_among y ys ≡ false). f) in (
      (away, k.0),
      eq_cases x y
          (λ e. absurd (clash (subst (λ n. is_among n (ys ++ x ∷ []) ≡ true) e (among-new x ys)) d.0))
          (λ n. cases (nat_eq x y)
          (λ (t : nat_eq x y ≡ true). absurd (n (same x y t)))
          (λ (f : nat_eq x y ≡ false). ap (λ b. b || is_among x ys) f ∙ k.1)),
    )

pub cells-push : (base : Base) (ps : List ℕ) (p : ℕ) → cells_at base (ps ++ p ∷ []) ≡ cells_at base ps ++ target_at base p ∷ []
cells-push base [] p = refl
cells-push base (q ∷ qs) p = ap (λ (cs : List ℕ). target_at base q ∷ cs) (cells-push base qs p)

-- ---- marks

pub mark-same : (marks : List Mark) (c : ℕ) (m : Mark) → c < length marks → mark_of (set marks c m) c ≡ m
mark-same marks c m h = get_or-set_same marks c m Settled h

pub mark-other : (marks : List Mark) (c d : ℕ) (m : Mark) → (d ≡ c → ⊥) → mark_of (set marks c m) d ≡ mark_of marks d
mark-other marks c d m h = get_or-set_other marks c d m Settled h

-- an unsettled cell has a mark
pub mark-low : (marks : List Mark) (c : ℕ) → (IsSettled marks c → ⊥) → c < length marks
mark-low [] c h = absurd (h refl)
mark-low (m ∷ ms) zero h = omega arith
mark-low (m ∷ ms) (suc c) h = let k = mark-low ms c h in omega arith

pub steps-none : (m : Mark) → steps_left m ≤ 0 → m ≡ Settled
steps-none Settled h = refl
steps-none Open h = absurd (omega arith)
steps-none (Waiting p) h = absurd (omega arith)

pub advanced-settled : (old new : List Mark) → HasAdvanced old new → (c : ℕ) → IsSettled old c → IsSettled new c
advanced-settled old new h c s = steps-none (mark_of new c) (let k = h c in let z = ap steps_left s in omega arith)

pub advanced-set : (marks : List Mark) (c : ℕ) (m : Mark) → c < length marks → steps_left m ≤ steps_left (mark_of marks c) → HasAdvanced marks (set marks c m)
advanced-set marks c m low h d = eq_cases d c
    (λ e. let k : steps_left (mark_of (set marks c m) d) ≡ steps_left m = ap (λ n. steps_left (mark_of (set marks c m) n)) e
    ∙ ap steps_left (mark-same marks c m low) in
    let j : steps_left (mark_of marks d) ≡ steps_left (mark_of marks c) = ap (λ n. steps_left (mark_of marks n)) e in omega arith)
    (λ n. let k : steps_left (mark_of (set marks c m) d) ≡ steps_left (mark_of marks d) = ap steps_left (mark-other marks c d m n) in omega arith)

pub left-less : (marks : List Mark) (c : ℕ) (m : Mark) → c < length marks → steps_left m < steps_left (mark_of marks c)
    → sum_by steps_left (set marks c m) < sum_by steps_left marks
left-less marks c m low h = let k = sum_by-set steps_left marks c m Settled low in omega arith

-- ---- reads along the path

pub ReadsNext-push : (base : Base) (xs : List ℕ) (y : ℕ) → ReadsNext base xs → LastReads base xs y → ReadsNext base (xs ++ y ∷ [])
ReadsNext-push base [] y h k = tt
ReadsNext-push base (x ∷ []) y h k = (k, tt)
ReadsNext-push base (x ∷ z ∷ zs) y h k = (h.0, ReadsNext-push base (z ∷ zs) y h.1 k)

ReadsNext-front : (base : Base) (xs : List ℕ) (y : ℕ) → ReadsNext base (xs ++ y ∷ []) → ReadsNext base xs
ReadsNext-front base [] y h = tt
ReadsNext-front base (x ∷ []) y h = tt
ReadsNext-front base (x ∷ z ∷ zs) y h = (h.0, ReadsNext-front base (z ∷ zs) y h.1)

pub LastReads-push : (base : Base) (xs : List ℕ) (y c : ℕ) → Reads base y c → LastReads base (xs ++ y ∷ []) c
LastReads-push base [] y c r = r
LastReads-push base (x ∷ []) y c r = r
LastReads-push base (x ∷ z ∷ zs) y c r = LastReads-push base (z ∷ zs) y c r

-- one more position at the end, which reads only settled cells and which no earlier one reads
ReadsEarlier-push : (base : Base) (ps : List ℕ) (p : ℕ) → ReadsEarlier base ps
    → ((q : ℕ) → is_among q (ps ++ p ∷ []) ≡ true → TermReads (term_at base q) (target_at base p) → ⊥) → ReadsEarlier base (ps ++ p ∷ [])
ReadsEarlier-push base [] p h away = (
  λ c r. eq_cases c (target_at base p)
      (λ e. absurd (away p (among-new p []) (subst (λ n. TermReads (term_at base p) n) e r)))
      (λ n. away-from c (target_at base p) n),
  tt,
)
  where
    away-from : (c d : ℕ) → (c ≡ d → ⊥) → (nat_eq c d || false) ≡ false
    away-from c d n = cases (nat_eq c d) (λ (t : nat_eq c d ≡ true). absurd (n (same c d t))) (λ (f : nat_eq c d ≡ false). ap (λ b. b || false) f)
ReadsEarlier-push base (q ∷ qs) p h away = (
  λ c r. eq_cases c (target_at base p)
      (λ e. absurd (away q (ap (λ b. b || is_among q (qs ++ p ∷ [])) (itself q)) (subst (λ n. TermReads (term_at base q) n) e r)))
      (λ n. ap (is_among c) (cells-push base (q ∷ qs) p) ∙ among-neither c (target_at base p) (cells_at base (q ∷ qs)) (h.0 c r) n),
  ReadsEarlier-push base qs p h.1 (λ r i k. away r (or-true (nat_eq r q) (is_among r (qs ++ p ∷ [])) i) k),
)
  where
    among-neither : (c d : ℕ) (cs : List ℕ) → is_among c cs ≡ false → (c ≡ d → ⊥) → is_among c (cs ++ d ∷ []) ≡ false
    among-neither c d cs f n = cases (is_among c (cs ++ d ∷ []))
        (λ (t : is_among c (cs ++ d ∷ []) ≡ true). elim (among-push c d cs t) [ inl k ↦ absurd (clash k f) | inr e ↦ absurd (n e) ])
        (λ (g : is_among c (cs ++ d ∷ []) ≡ false). g)

-- ---- the two steps

-- a waiting definition is pushed onto the path
pub begun-step : (base : Base) (marks : List Mark) (path sequence : List ℕ) (p : ℕ) → IsValidBase base → IsSearch base marks path sequence
    → mark_of marks (target_at base p) ≡ Waiting p → LastReads base (cells_at base path) (target_at base p)
    → IsSearch base (set marks (target_at base p) Open) (path ++ p ∷ []) sequence
begun-step base marks path sequence p valid s waits reads =
    let t : ℕ = target_at base p in
    let new : List Mark = set marks t Open in
    let low : t < length marks = mark-low marks t (λ e. mark_waiting (sym e ∙ waits)) in
    let at : mark_of new t ≡ Open = mark-same marks t Open low in
    let off : (c : ℕ) → (c ≡ t → ⊥) → mark_of new c ≡ mark_of marks c = λ c n. mark-other marks t c Open n in
    let is_at : (c : ℕ) → c ≡ t → mark_of new c ≡ Open = λ c e. ap (mark_of new) e ∙ at in
    let unsettled : (c : ℕ) → c ≡ t → IsSettled marks c → ⊥ = λ c e h. mark_waiting (sym h ∙ ap (mark_of marks) e ∙ waits) in
    let cells : cells_at base (path ++ p ∷ []) ≡ cells_at base path ++ t ∷ [] = cells-push base path p in
    record {
      size = length-set marks t Open ∙ s.size;
      path_within = λ q h. elim (among-push q p path h) [
        | inl k ↦ s.path_within q k
        | inr e ↦ subst (λ n. n < length base.definitions) (sym e)
            (s.waiting t p waits).0
      ];
      placed_within = s.placed_within;
      waiting = λ c q h. eq_cases c t
          (λ e. absurd (mark_open (sym (is_at c e) ∙ h)))
          (λ n. s.waiting c q (sym (off c n) ∙ h));
      begun = λ c h. eq_cases c t
          (λ e. ap (is_among c) cells ∙ subst (λ n. is_among n (cells_at base path ++ t ∷ []) ≡ true) (sym e) (among-new t (cells_at base path)))
          (λ n. ap (is_among c) cells ∙ among-old c t (cells_at base path) (s.begun c (sym (off c n) ∙ h)));
      settled = λ q low h. eq_cases (target_at base q) t
          (λ e. absurd (mark_settled (sym (is_at (target_at base q) e) ∙ h)))
          (λ n. s.settled q low (sym (off (target_at base q) n) ∙ h));
      on_path = λ c h. eq_cases c t
          (λ e. is_at c e)
          (λ n. elim (among-push c t (cells_at base path) (sym (ap (is_among c) cells) ∙ h)) [ inl k ↦ off c n ∙ s.on_path c k | inr e ↦ absurd (n e) ]);
      placed = λ q h. eq_cases (target_at base q) t
          (λ e. absurd (unsettled (target_at base q) e (s.placed q h)))
          (λ n. off (target_at base q) n ∙ s.placed q h);
      path_once = subst (λ (cs : List ℕ). AreDistinctCells cs) (sym cells)
          (AreDistinct-push (cells_at base path) t s.path_once
          (cases (is_among t (cells_at base path))
          (λ (k : is_among t (cells_at base path) ≡ true). absurd (mark_open (sym (s.on_path t k) ∙ waits)))
          (λ (f : is_among t (cells_at base path) ≡ false). f)));
      placed_once = s.placed_once;
      path_reads = subst (λ (cs : List ℕ). ReadsNext base cs) (sym cells) (ReadsNext-push base (cells_at base path) t s.path_reads reads);
      closed = λ q c h r. eq_cases c t
          (λ e. absurd (unsettled c e (s.closed q c h r)))
          (λ n. off c n ∙ s.closed q c h r);
      earlier = s.earlier;
    }
  where
    mark_waiting : {q : ℕ} → Settled ≡ Waiting q → ⊥
    mark_waiting e = cc

    mark_open : {q : ℕ} → Open ≡ Waiting q → ⊥
    mark_open e = cc

    mark_settled : Open ≡ Settled → ⊥
    mark_settled e = cc

-- the last definition of the path is placed, if all cells that it reads are settled
pub placed-step : (base : Base) (marks : List Mark) (path sequence : List ℕ) (p : ℕ) → IsValidBase base → IsSearch base marks (path ++ p ∷ []) sequence
    → ((c : ℕ) → TermReads (term_at base p) c → IsSettled marks c) → IsSearch base (set marks (target_at base p) Settled) path (sequence ++ p ∷ [])
placed-step base marks path sequence p valid s reads =
    let t : ℕ = target_at base p in
    let new : List Mark = set marks t Settled in
    let cells : cells_at base (path ++ p ∷ []) ≡ cells_at base path ++ t ∷ [] = cells-push base path p in
    let here : mark_of marks t ≡ Open = s.on_path t (ap (is_among t) cells ∙ among-new t (cells_at base path)) in
    let low : t < length marks = mark-low marks t (λ e. open_settled (sym here ∙ e)) in
    let at : (c : ℕ) → c ≡ t → IsSettled new c = λ c e. ap (mark_of new) e ∙ mark-same marks t Settled low in
    let off : (c : ℕ) → (c ≡ t → ⊥) → mark_of new c ≡ mark_of marks c = λ c n. mark-other marks t c Settled n in
    let kept : (c : ℕ) → IsSettled marks c → IsSettled new c = λ c h. eq_cases c t (λ e. at c e) (λ n. off c n ∙ h) in
    let within : p < length base.definitions = s.path_within p (among-new p path) in
    let apart = front-distinct (cells_at base path) t (subst (λ (cs : List ℕ). AreDistinctCells cs) cells s.path_once) in
    let unread : (q : ℕ) → is_among q (sequence ++ p ∷ []) ≡ true → TermReads (term_at base q) t → ⊥ = λ q h r.
    elim (among-push q p sequence h) [
      | inl k ↦ open_settled (sym here ∙ s.closed q t k r)
      | inr e ↦ open_settled (sym here
          ∙ reads t (subst (λ n. TermReads (term_at base n) t) e r))
    ] in
    record {
      size = length-set marks t Settled ∙ s.size;
      path_within = λ q h. s.path_within q (among-old q p path h);
      placed_within = λ q h. elim (among-push q p sequence h) [ inl k ↦ s.placed_within q k | inr e ↦ subst (λ n. n < length base.definitions) (sym e) within ];
      waiting = λ c q h. eq_cases c t
          (λ e. absurd (settled_waiting (sym (at c e) ∙ h)))
          (λ n. s.waiting c q (sym (off c n) ∙ h));
      begun = λ c h. eq_cases c t
          (λ e. absurd (open_settled (sym h ∙ at c e)))
          (λ n. elim (among-push c t (cells_at base path) (sym (ap (is_among c) cells) ∙ s.begun c (sym (off c n) ∙ h))) [ inl k ↦ k | inr e ↦ absurd (n e) ]);
      settled = λ q low h. eq_cases (target_at base q) t
          (λ e. subst (λ n. is_among n (sequence ++ p ∷ []) ≡ true) (sym (position-one base q p valid.defined_once low within e)) (among-new p sequence))
          (λ n. among-old q p sequence (s.settled q low (sym (off (target_at base q) n) ∙ h)));
      on_path = λ c h. eq_cases c t
          (λ e. absurd (clash (subst (λ n. is_among n (cells_at base path) ≡ true) e h) apart.1))
          (λ n. off c n ∙ s.on_path c (ap (is_among c) cells ∙ among-old c t (cells_at base path) h));
      placed = λ q h. elim (among-push q p sequence h) [
        | inl k ↦ kept (target_at base q) (s.placed q k)
        | inr e ↦ at (target_at base q) (ap (target_at base) e)
      ];
      path_once = apart.0;
      placed_once = AreDistinct-push sequence p s.placed_once
          (cases (is_among p sequence)
          (λ (k : is_among p sequence ≡ true). absurd (open_settled (sym here ∙ s.placed p k)))
          (λ (f : is_among p sequence ≡ false). f));
      path_reads = ReadsNext-front base (cells_at base path) t (subst (λ (cs : List ℕ). ReadsNext base cs) cells s.path_reads);
      closed = λ q c h r. elim (among-push q p sequence h)
          [ inl k ↦ kept c (s.closed q c k r) | inr e ↦ kept c (reads c (subst (λ n. TermReads (term_at base n) c) e r)) ];
      earlier = ReadsEarlier-push base sequence p s.earlier unread;
    }
  where
    open_settled : Open ≡ Settled → ⊥
    open_settled e = cc

    settled_waiting : {q : ℕ} → Settled ≡ Waiting q → ⊥
    settled_waiting e = cc

-- ---- the result

pub among-at_or : (xs : List ℕ) (i d : ℕ) → i < length xs → is_among (get_or xs i d) xs ≡ true
among-at_or [] i d h = absurd (omega arith)
among-at_or (x ∷ xs) zero d h = ap (λ b. b || is_among x xs) (itself x)
among-at_or (x ∷ xs) (suc i) d h = or-true (nat_eq (get_or xs i d) x) (is_among (get_or xs i d) xs) (among-at_or xs i d (omega arith))

-- if all cells with definitions are settled, the sequence is an order
pub ordered : (base : Base) (marks : List Mark) (sequence : List ℕ) → IsSearch base marks [] sequence
    → ((p : ℕ) → p < length base.definitions → IsSettled marks (target_at base p)) → IsOrder base sequence
ordered base marks sequence s all = record {
  within = λ k d l. s.placed_within (get_or sequence k d) (among-at_or sequence k d l);
  every = λ p h. s.settled p h (all p h);
  once = s.placed_once;
  earlier = s.earlier;
}
