-- The loop that writes lines; only the values of the cells that have lines matter.
use Rattle.std.proofs.Common.{◌≡◌, ℕ, suc, ◌+◌, ◌<◌, ◌≤◌, true, false, cond, nat_eq, List, [], ◌∷◌, ◌++◌, length, get_or, set, take, drop, None, Some, refl, ap}
use Rattle.std.proofs.Common.{sym, ◌∙◌, subst, inl, inr, arith}
use mathlib.Core.Bool.{◌||◌}
use Rattle.std.specs.Option.{option_map_or, IsSomeAnd}
use Rattle.std.proofs.Math.Seq.{drop-cons}
use Rattle.std.proofs.lemmas.List.{take_more_set, drop_all, get_or-set_same, get_or-set_other}
use Rattle.m_fixed.specs.declared.amount.Value.{Value}
use Rattle.m_fixed.specs.declared.amount.Value.TheVariants.{Undef}
use Rattle.micro_m.specs.declared.base.Base.{Base}
use Rattle.micro_m.specs.Bases.{is_among, definition_of}
use Rattle.micro_m.specs.Reads.{TermReads, Reads}
use Rattle.micro_m.specs.Values.{Environment, environment, term_value}
use Rattle.micro_m.proofs.NumberLemmas.{same, itself, cases, clash, or-false}
use Rattle.micro_m.proofs.TermLemmas.{term_value-same}
use Rattle.micro_m.proofs.TurnLemmas.{option_cases}
use Rattle.why_report.specs.declared.line.ReportLine.{ReportLine}
use Rattle.why_report.specs.Derivations.{reported_cells, reported_values}
use Rattle.why_report.specs.Reasons.{line_over, lines_over}
use Rattle.why_report.specs.inner.Held.{AreFollowing}
use Rattle.why_report.proofs.ReadLemmas.{or-either}
use Rattle.why_report.proofs.ReasonLemmas.{reported-more, following-line}

-- The invariant after the first lines: the rest completes them, and the values are those of the
-- lines.
pub record IsFill (base : Base) (given : Environment) (cells : List ℕ) (values : List Value) (lines : List ReportLine) (i : ℕ) : Type 0 where
  pub rest : lines_over base given (take i lines) (drop i cells) ≡ lines_over base given [] cells
  pub following : AreFollowing base (reported_cells (take i lines)) (drop i cells)
  pub values_are : (c : ℕ) → is_among c (reported_cells (take i lines)) ≡ true → environment values c ≡ reported_values (take i lines) c

pub fill-first : (base : Base) (given : Environment) (cells : List ℕ) (values : List Value) (lines : List ReportLine) → AreFollowing base [] cells
    → IsFill base given cells values lines 0
fill-first base given cells values lines h = record { rest = refl; following = h; values_are = λ c t. absurd (cc) }

-- a cell's value depends only on what it reads
value-same : (base : Base) (given e f : Environment) (x : ℕ) → ((c : ℕ) → Reads base x c → e c ≡ f c)
    → option_map_or (term_value e) (definition_of base x) (given x) ≡ option_map_or (term_value f) (definition_of base x) (given x)
value-same base given e f x h = option_cases (definition_of base x)
    (λ (n : definition_of base x ≡ None). ap (λ o. option_map_or (term_value e) o (given x)) n ∙ sym (ap (λ o. option_map_or (term_value f) o (given x)) n))
    (λ t (s : definition_of base x ≡ Some t).
    ap (λ o. option_map_or (term_value e) o (given x)) s
    ∙ term_value-same t e f (λ c r. h c (subst (λ o. IsSomeAnd o (λ u. TermReads u c)) (sym s) r))
    ∙ sym (ap (λ o. option_map_or (term_value f) o (given x)) s))

-- one more line changes its own cell's value only
reported-old : (lines : List ReportLine) (l : ReportLine) (c : ℕ) → is_among c (reported_cells lines) ≡ true
    → reported_values (lines ++ l ∷ []) c ≡ reported_values lines c
reported-old [] l c h = absurd (cc)
reported-old (k ∷ lines) l c h = cases (nat_eq c k.cell)
    (λ (t : nat_eq c k.cell ≡ true). ap (λ b. cond b k.value (reported_values (lines ++ l ∷ []) c)) t
    ∙ sym (ap (λ b. cond b k.value (reported_values lines c)) t))
    (λ (f : nat_eq c k.cell ≡ false).
    ap (λ b. cond b k.value (reported_values (lines ++ l ∷ []) c)) f
    ∙ reported-old lines l c (ap (λ b. b || is_among c (reported_cells lines)) (sym f) ∙ h)
    ∙ sym (ap (λ b. cond b k.value (reported_values lines c)) f))

reported-new : (lines : List ReportLine) (l : ReportLine) → is_among l.cell (reported_cells lines) ≡ false → reported_values (lines ++ l ∷ []) l.cell ≡ l.value
reported-new [] l h = ap (λ b. cond b l.value Undef) (itself l.cell)
reported-new (k ∷ lines) l h =
    let o = or-false (nat_eq l.cell k.cell) (is_among l.cell (reported_cells lines)) h in
    ap (λ b. cond b k.value (reported_values (lines ++ l ∷ []) l.cell)) o.0 ∙ reported-new lines l o.1

pub fill-turn : (base : Base) (given : Environment) (cells : List ℕ) (values : List Value) (lines : List ReportLine) (i x : ℕ) (v : Value) → i < length cells
    → i < length lines → x ≡ get_or cells i 0 → x < length values → v ≡ option_map_or (term_value (environment values)) (definition_of base x) (given x)
    → IsFill base given cells values lines i → IsFill base given cells (set values x v) (set lines i (record { cell = x; value = v })) (i + 1)
fill-turn base given cells values lines i x v low room is within value fill =
    let reported : List ReportLine = take i lines in
    let line : ReportLine = record { cell = x; value = v } in
    let one : suc i ≡ i + 1 = omega arith in
    let here : drop i cells ≡ x ∷ drop (i + 1) cells = drop-cons cells i 0 low ∙ ap (λ n. n ∷ drop (suc i) cells) (sym is) ∙ ap (λ n. x ∷ drop n cells) one in
    let follows : AreFollowing base (reported_cells reported) (x ∷ drop (i + 1) cells) = subst (AreFollowing base (reported_cells reported)) here
    fill.following in
    let more : take (i + 1) (set lines i line) ≡ reported ++ line ∷ [] = take_more_set lines i line room in
    let agrees : v ≡ option_map_or (term_value (reported_values reported)) (definition_of base x) (given x) =
    value ∙ value-same base given (environment values) (reported_values reported) x (λ c r. fill.values_are c (follows.1 c r)) in
    let line_is : line ≡ line_over base given reported x = ap (λ (w : Value). record { cell = x; value = w }) agrees in
    record {
      rest = ap (λ (ls : List ReportLine). lines_over base given ls (drop (i + 1) cells)) (more ∙ ap (λ (l : ReportLine). reported ++ l ∷ []) line_is)
          ∙ sym (ap (lines_over base given reported) here)
          ∙ fill.rest;
      following = subst (λ (ls : List ReportLine). AreFollowing base (reported_cells ls) (drop (i + 1) cells)) (sym more)
          (following-line base reported line (drop (i + 1) cells) follows.2);
      values_are = λ c t.
          let among = ap (λ (ls : List ReportLine). is_among c (reported_cells ls)) (sym more) ∙ t in
          cases (nat_eq c x)
          (λ (y : nat_eq c x ≡ true).
          let e : c ≡ x = same c x y in
          ap (environment (set values x v)) e ∙ get_or-set_same values x v Undef within
          ∙ sym (ap (reported_values (take (i + 1) (set lines i line))) e ∙ ap (λ (ls : List ReportLine). reported_values ls x) more
          ∙ reported-new reported line follows.0))
          (λ (n : nat_eq c x ≡ false).
          let old : is_among c (reported_cells reported) ≡ true = elim (or-either (is_among c (reported_cells reported)) (nat_eq c x || false)
          (sym (reported-more reported line c) ∙ among)) [
            | inl m ↦ m
            | inr m ↦ absurd (clash m (ap (λ b. b || false) n))
          ] in
          get_or-set_other values x c v Undef (λ e. clash (subst (λ m. nat_eq c m ≡ true) e (itself c)) n)
          ∙ fill.values_are c old
          ∙ sym (ap (λ (ls : List ReportLine). reported_values ls c) more ∙ reported-old reported line c old));
    }

pub fill-end : (base : Base) (given : Environment) (cells : List ℕ) (values : List Value) (lines : List ReportLine) (i : ℕ) → length cells ≤ i
    → IsFill base given cells values lines i → take i lines ≡ lines_over base given [] cells
fill-end base given cells values lines i low fill = sym (ap (lines_over base given (take i lines)) (drop_all i cells low)) ∙ fill.rest
