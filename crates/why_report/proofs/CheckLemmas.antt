-- The state of a check decides whether the next line follows.
use Rattle.std.proofs.Common.{◌≡◌, ℕ, zero, suc, ◌+◌, ◌<◌, Bool, true, false, cond, nat_eq, List, [], ◌∷◌, length, get_or, set, take, replicate, Option, None}
use Rattle.std.proofs.Common.{Some, refl, ap, sym, ◌∙◌, subst, inl, inr, add-one, arith}
use mathlib.Core.Bool.{◌||◌}
use Rattle.std.proofs.lemmas.List.{length-set, get_or-set_same, get_or-set_other, get_or_default}
use Rattle.std.proofs.Math.ListN.{length-map}
use Rattle.std.proofs.lemmas.Bool.{cases_eq}
use Rattle.std.specs.Option.{option_map_or, IsSomeAnd}
use Rattle.m_fixed.specs.declared.amount.Value.{Value}
use Rattle.m_fixed.specs.declared.amount.Value.TheVariants.{Undef}
use Rattle.micro_m.specs.Trees.{Tree, lit}
use Rattle.micro_m.specs.declared.base.Base.{Base}
use Rattle.micro_m.specs.Bases.{Definition, is_among, terms_of, definition_of, IsWithin, IsValidBase}
use Rattle.micro_m.specs.Reads.{TermReads}
use Rattle.micro_m.specs.Values.{Environment, environment, term_value}
use Rattle.micro_m.proofs.NumberLemmas.{same, itself, cases, clash, among-append}
use Rattle.micro_m.proofs.PositionLemmas.{definition_of-position}
use Rattle.micro_m.proofs.TermLemmas.{term_value-same}
use Rattle.micro_m.proofs.TurnLemmas.{option_cases}
use Rattle.why_report.specs.declared.line.ReportLine.{ReportLine}
use Rattle.why_report.specs.declared.check.Checked.{Checked}
use Rattle.why_report.specs.Derivations.{reported_cells, reported_values, line_at, IsDerived, IsDerivedAt, IsFirstUnsound}
use Rattle.why_report.specs.inner.Standing.{is_set, AllStand, KnowsStanding, term_is_marked}
use Rattle.why_report.specs.inner.Checked.{standing_value, derived_value, Keeps}
use Rattle.why_report.proofs.ListLemmas.{cells-more, values-more, sound-part}
use Rattle.why_report.proofs.StandingLemmas.{term-covers, covers-term}
use Rattle.why_report.proofs.PlaceLemmas.{zeros, zero-all}

-- ---- no lines

undef-all : (n c : ℕ) → environment (replicate n Undef) c ≡ Undef
undef-all zero c = refl
undef-all (suc n) zero = refl
undef-all (suc n) (suc c) = undef-all n c

false-all : (n c : ℕ) → is_set (replicate n false) c ≡ false
false-all zero c = refl
false-all (suc n) zero = refl
false-all (suc n) (suc c) = false-all n c

pub keeps-none : (n : ℕ) (checked : Checked) → checked.values.items ≡ replicate n Undef → checked.marks.items ≡ replicate n false
    → checked.known.items ≡ zeros n → length checked.values.items ≡ n → length checked.marks.items ≡ n → length checked.known.items ≡ n → Keeps n [] checked
keeps-none n checked values marks known values_size marks_size known_size = record {
  values_size = values_size;
  marks_size = marks_size;
  known_size = known_size;
  values = λ c. ap (λ (vs : List Value). environment vs c) values ∙ undef-all n c;
  marks = λ c. ap (λ (ms : List Bool). is_set ms c) marks ∙ false-all n c;
  known = λ first c low high. let none : get_or checked.known.items first 0 ≡ 0 = ap (λ (ns : List ℕ). get_or ns first 0) known
      ∙ zero-all n first in absurd (omega arith);
}

-- ---- one line

some-value : {v w : Value} → Some v ≡ Some w → v ≡ w
some-value e = cc

none-some : {w : Value} → None ≡ Some w → ⊥
none-some e = cc

derives : (base : Base) (given : Environment) (cells : ℕ) (earlier : List ReportLine) (checked : Checked) (line : ReportLine) → Keeps cells earlier checked
    → is_set checked.marks.items line.cell ≡ false → derived_value base given checked.marks.items checked.values.items line.cell ≡ Some line.value
    → IsDerived base given earlier line
derives base given cells earlier checked line kept away is =
    let marks : List Bool = checked.marks.items in
    let values : List Value = checked.values.items in
    option_cases (definition_of base line.cell)
    (λ (none : definition_of base line.cell ≡ None). record {
      reported_once = sym (kept.marks line.cell) ∙ away;
      reads_earlier = λ c r. absurd (subst (λ o. IsSomeAnd o (λ t. TermReads t c)) none r);
      has_value = sym (some-value (sym (ap (λ o. option_map_or (standing_value marks values) o (Some (given line.cell))) none) ∙ is))
          ∙ sym (ap (λ o. option_map_or (term_value (reported_values earlier)) o (given line.cell)) none);
    })
    (λ t (some : definition_of base line.cell ≡ Some t).
    let at : cond (term_is_marked marks t) (Some (term_value (environment values) t)) None ≡ Some line.value = sym
    (ap (λ o. option_map_or (standing_value marks values) o (Some (given line.cell))) some) ∙ is in
    cases (term_is_marked marks t)
    (λ (y : term_is_marked marks t ≡ true). record {
      reported_once = sym (kept.marks line.cell) ∙ away;
      reads_earlier = λ c r. sym (kept.marks c) ∙ term-covers marks t y c (subst (λ o. IsSomeAnd o (λ u. TermReads u c)) some r);
      has_value = sym (some-value (sym (ap (λ b. cond b (Some (term_value (environment values) t)) None) y) ∙ at))
          ∙ term_value-same t (environment values) (reported_values earlier) (λ c r. kept.values c)
          ∙ sym (ap (λ o. option_map_or (term_value (reported_values earlier)) o (given line.cell)) some);
    })
    (λ (n : term_is_marked marks t ≡ false). absurd (none-some (sym (ap (λ b. cond b (Some (term_value (environment values) t)) None) n) ∙ at))))

derived : (base : Base) (given : Environment) (cells : ℕ) (earlier : List ReportLine) (checked : Checked) (line : ReportLine) → Keeps cells earlier checked
    → IsDerived base given earlier line → (is_set checked.marks.items line.cell ≡ false)
    × (derived_value base given checked.marks.items checked.values.items line.cell ≡ Some line.value)
derived base given cells earlier checked line kept follows =
    let marks : List Bool = checked.marks.items in
    let values : List Value = checked.values.items in (
      kept.marks line.cell ∙ follows.reported_once,
      option_cases (definition_of base line.cell)
          (λ (none : definition_of base line.cell ≡ None).
          ap (λ o. option_map_or (standing_value marks values) o (Some (given line.cell))) none
          ∙ ap Some (sym (follows.has_value ∙ ap (λ o. option_map_or (term_value (reported_values earlier)) o (given line.cell)) none)))
          (λ t (some : definition_of base line.cell ≡ Some t).
          ap (λ o. option_map_or (standing_value marks values) o (Some (given line.cell))) some
          ∙ ap (λ b. cond b (Some (term_value (environment values) t)) None)
          (covers-term marks t (λ c r. kept.marks c ∙ follows.reads_earlier c (subst (λ o. IsSomeAnd o (λ u. TermReads u c)) (sym some) r)))
          ∙ ap Some (term_value-same t (environment values) (reported_values earlier) (λ c r. kept.values c)
          ∙ sym (follows.has_value ∙ ap (λ o. option_map_or (term_value (reported_values earlier)) o (given line.cell)) some))),
    )

-- the line at a position of the list
pub line-is : (lines : List ReportLine) (i : ℕ) (line : ReportLine) → i < length lines → line ≡ get_or lines i line → line ≡ line_at lines i
line-is lines i line low is = is ∙ get_or_default lines i line (line_at [] 0) low

pub follows-here : (base : Base) (given : Environment) (cells i : ℕ) (lines : List ReportLine) (checked : Checked) (line : ReportLine) (found : Option Value)
    → Keeps cells (take i lines) checked → line ≡ line_at lines i → is_set checked.marks.items line.cell ≡ false
    → found ≡ derived_value base given checked.marks.items checked.values.items line.cell → found ≡ Some line.value → IsDerivedAt base given lines i
follows-here base given cells i lines checked line found kept is away derived_is has =
    subst (λ (l : ReportLine). IsDerived base given (take i lines) l) is
    (derives base given cells (take i lines) checked line kept away (sym derived_is ∙ has))

-- a cell that an earlier line has
pub reported-before : (base : Base) (given : Environment) (cells i : ℕ) (lines : List ReportLine) (checked : Checked) (line : ReportLine)
    → Keeps cells (take i lines) checked → line ≡ line_at lines i → is_set checked.marks.items line.cell ≡ true → IsDerivedAt base given lines i → ⊥
reported-before base given cells i lines checked line kept is here follows =
    clash here (derived base given cells (take i lines) checked line kept (subst (λ (l : ReportLine). IsDerived base given (take i lines) l) (sym is)
    follows)).0

-- another value, or a cell that is read and has no earlier line
pub not-derived : (base : Base) (given : Environment) (cells i : ℕ) (lines : List ReportLine) (checked : Checked) (line : ReportLine) (found : Option Value)
    → Keeps cells (take i lines) checked → line ≡ line_at lines i → found ≡ derived_value base given checked.marks.items checked.values.items line.cell
    → (found ≡ Some line.value → ⊥) → IsDerivedAt base given lines i → ⊥
not-derived base given cells i lines checked line found kept is derived_is other follows =
    other (derived_is ∙ (derived base given cells (take i lines) checked line kept (subst (λ (l : ReportLine). IsDerived base given (take i lines) l) (sym is)
    follows)).1)

-- ---- one more line

is_set-more : (marks : List Bool) (cell : ℕ) → cell < length marks → (c : ℕ) → is_set (set marks cell true) c ≡ (is_set marks c || (nat_eq c cell || false))
is_set-more marks cell low c = elim (cases_eq c cell) [
  | inl e ↦ ap (λ n. is_set (set marks cell true) n) e ∙ get_or-set_same marks cell true false low
      ∙ sym (ap (λ b. is_set marks c || (b || false)) (ap (λ n. nat_eq n cell) e ∙ itself cell) ∙ or-last (is_set marks c))
  | inr n ↦ get_or-set_other marks cell c true false n
      ∙ sym (ap (λ b. is_set marks c || (b || false)) (differ c cell n) ∙ or-none (is_set marks c))
]
  where
    or-last : (b : Bool) → (b || (true || false)) ≡ true
    or-last true = refl
    or-last false = refl

    or-none : (b : Bool) → (b || (false || false)) ≡ b
    or-none true = refl
    or-none false = refl

    differ : (a b : ℕ) → (a ≡ b → ⊥) → nat_eq a b ≡ false
    differ a b n = cases (nat_eq a b) (λ (t : nat_eq a b ≡ true). absurd (n (same a b t))) (λ (f : nat_eq a b ≡ false). f)

or-left : (a b : Bool) → a ≡ true → (a || b) ≡ true
or-left true b e = refl
or-left false b e = absurd (cc)

value-set : (values : List Value) (cell : ℕ) (v : Value) → cell < length values → (c : ℕ)
    → environment (set values cell v) c ≡ cond (nat_eq c cell) v (environment values c)
value-set values cell v low c = cases (nat_eq c cell)
    (λ (t : nat_eq c cell ≡ true).
    ap (λ n. environment (set values cell v) n) (same c cell t) ∙ get_or-set_same values cell v Undef low
    ∙ sym (ap (λ b. cond b v (environment values c)) t))
    (λ (f : nat_eq c cell ≡ false).
    get_or-set_other values cell c v Undef (λ e. clash (subst (λ n. nat_eq c n ≡ true) e (itself c)) f)
    ∙ sym (ap (λ b. cond b v (environment values c)) f))

pub keeps-more : (cells i : ℕ) (lines : List ReportLine) (old new : Checked) (line : ReportLine) (known : List ℕ) → Keeps cells (take i lines) old
    → i < length lines → line ≡ line_at lines i → line.cell < cells → is_set old.marks.items line.cell ≡ false
    → new.values.items ≡ set old.values.items line.cell line.value → new.marks.items ≡ set old.marks.items line.cell true → new.known.items ≡ known
    → length known ≡ cells → KnowsStanding old.marks.items known → Keeps cells (take (i + 1) lines) new
keeps-more cells i lines old new line ks kept low is within away values marks same_known known_size known =
    let values_size = kept.values_size in
    let marks_size = kept.marks_size in
    let grown : (c : ℕ) → is_set new.marks.items c ≡ (is_set old.marks.items c || (nat_eq c line.cell || false)) =
    λ c. ap (λ (ms : List Bool). is_set ms c) marks ∙ is_set-more old.marks.items line.cell (omega arith) c in
    subst (λ n. Keeps cells (take n lines) new) (sym (add-one i)) record {
      values_size = ap length values ∙ length-set old.values.items line.cell line.value ∙ kept.values_size;
      marks_size = ap length marks ∙ length-set old.marks.items line.cell true ∙ kept.marks_size;
      known_size = ap length same_known ∙ known_size;
      values = λ c. ap (λ (vs : List Value). environment vs c) values
          ∙ value-set old.values.items line.cell line.value (omega arith) c
          ∙ ap (λ v. cond (nat_eq c line.cell) line.value v) (kept.values c)
          ∙ ap (λ (l : ReportLine). cond (nat_eq c l.cell) l.value (reported_values (take i lines) c)) is
          ∙ sym (values-more lines i c low (ap (λ (l : ReportLine). is_among l.cell (reported_cells (take i lines))) (sym is) ∙ sym (kept.marks line.cell)
          ∙ away));
      marks = λ c. grown c
          ∙ ap (λ b. b || (nat_eq c line.cell || false)) (kept.marks c)
          ∙ ap (λ (l : ReportLine). is_among c (reported_cells (take i lines)) || (nat_eq c l.cell || false)) is
          ∙ sym (ap (is_among c) (cells-more lines i low) ∙ among-append c (reported_cells (take i lines)) ((line_at lines i).cell ∷ []));
      known = λ first c above below. grown c ∙ or-left (is_set old.marks.items c) (nat_eq c line.cell || false)
          (subst (λ (ns : List ℕ). AllStand old.marks.items first (get_or ns first 0)) (sym same_known) (known first) c above below);
    }

-- ---- the result

pub first-unsound : (base : Base) (given : Environment) (lines : List ReportLine) (i : ℕ) → ((p : ℕ) → p < i → IsDerivedAt base given lines p)
    → i < length lines → (IsDerivedAt base given lines i → ⊥) → IsFirstUnsound base given lines i
first-unsound base given lines i sound low bad = record {
  within = low;
  sound_before = sound-part base given lines i sound (omega arith);
  unsound = bad;
}

pub sound-so-far : (base : Base) (given : Environment) (lines : List ReportLine) (i : ℕ) → ((p : ℕ) → p < i → IsDerivedAt base given lines p)
    → IsDerivedAt base given lines i → (p : ℕ) → p < i + 1 → IsDerivedAt base given lines p
sound-so-far base given lines i sound here p h = elim (cases_eq p i) [
  | inl e ↦ subst (λ n. IsDerivedAt base given lines n) (sym e) here
  | inr n ↦ sound p
      (less n)
]
  where
    less : (p ≡ i → ⊥) → p < i
    less n = omega arith

-- the term that defines a cell reads cells of the base only
pub term-within : (base : Base) (c n : ℕ) (t : Tree) → IsValidBase base → definition_of base c ≡ Some t → n ≡ base.cells → IsWithin n t
term-within base c n t valid is size =
    let k = definition_of-position base c t is in
    let low = k.1 in
    subst (λ m. IsWithin m t) (sym size) (subst (IsWithin base.cells) k.3 (valid.terms k.0 (lit Undef) (omega (arith, terms-long base))))
  where
    terms-long : (b : Base) → length (terms_of b) ≡ length b.definitions
    terms-long b = length-map b.definitions (λ (d : Definition). d.1)

-- a mark that was looked up
pub mark-false : (marks : List Bool) (c : ℕ) (b : Bool) → b ≡ get_or marks c b → b ≡ false → is_set marks c ≡ false
mark-false marks c b is f = ap (λ d. get_or marks c d) (sym f) ∙ sym is ∙ f

-- a value that follows from slices follows from the state of a check
pub derived-kept : (base : Base) (given : Environment) (checked : Checked) (c : ℕ) (marks : List Bool) (values : List Value) (found : Option Value)
    → found ≡ derived_value base given marks values c → marks ≡ checked.marks.items → values ≡ checked.values.items
    → found ≡ derived_value base given checked.marks.items checked.values.items c
derived-kept base given checked c marks values found is same_marks same_values =
    is ∙ ap (λ (ms : List Bool). derived_value base given ms values c) same_marks
    ∙ ap (λ (vs : List Value). derived_value base given checked.marks.items vs c) same_values
