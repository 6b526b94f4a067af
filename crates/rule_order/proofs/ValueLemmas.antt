-- Values computed in an order solve the definitions, so they are the base's values.
use Rattle.std.proofs.Common.{◌≡◌, ℕ, suc, ◌+◌, ◌<◌, true, false, nat_eq, List, [], ◌∷◌, length, get_or, set, drop, Some, None, refl, ap, sym, ◌∙◌, subst}
use Rattle.std.proofs.Common.{add-one, arith}
use mathlib.Core.Bool.{◌||◌}
use Rattle.std.proofs.lemmas.List.{length-set, get_or-set_same, get_or-set_other}
use Rattle.std.proofs.Math.ListN.{length-map}
use Rattle.std.proofs.Math.Seq.{drop-cons}
use Rattle.std.specs.Option.{option_map_or, option_or}
use Rattle.std.specs.List.{All, cons_option}
use Rattle.m_fixed.specs.declared.amount.Value.{Value}
use Rattle.m_fixed.specs.declared.amount.Value.TheVariants.{Undef}
use Rattle.m_places.specs.declared.verification.Label.{Label}
use Rattle.micro_m.specs.Trees.{Tree}
use Rattle.micro_m.specs.declared.base.Base.{Base}
use Rattle.micro_m.specs.Bases.{Definition, is_among, AreDistinctCells, target_at, term_at, definition_of, IsValidBase}
use Rattle.micro_m.specs.Values.{Environment, environment, term_value, value_of, IsSolution}
use Rattle.micro_m.specs.Failures.{Check, kind_at, failure_of, failure_among, note_of, notes_among}
use Rattle.micro_m.proofs.NumberLemmas.{same, itself, cases, or-false, clash}
use Rattle.micro_m.proofs.PositionLemmas.{definition_of-target, definition_of-position, definition-at}
use Rattle.micro_m.proofs.TermLemmas.{term_value-same}
use Rattle.micro_m.proofs.TurnLemmas.{option_cases, one-solution}
use Rattle.rule_order.specs.Orders.{cells_at, ReadsEarlier, IsOrder}
use Rattle.rule_order.proofs.OrderLemmas.{All-head, All-among, cells-among, cells-distinct, ordered-free}

-- the values after the definitions at these positions are computed one after the other
abbrev pub filled : Base → List ℕ → List Value → List Value
filled base [] values = values
filled base (p ∷ later) values = filled base later (set values (target_at base p) (term_value (environment values) (term_at base p)))

-- the values of other cells are unchanged
filled-others : (base : Base) (ps : List ℕ) (values : List Value) (c : ℕ) → is_among c (cells_at base ps) ≡ false
    → environment (filled base ps values) c ≡ environment values c
filled-others base [] values c away = refl
filled-others base (p ∷ ps) values c away =
    let k = or-false (nat_eq c (target_at base p)) (is_among c (cells_at base ps)) away in
    filled-others base ps (set values (target_at base p) (term_value (environment values) (term_at base p))) c k.1
    ∙ get_or-set_other values (target_at base p) c (term_value (environment values) (term_at base p)) Undef
    (λ e. clash (subst (λ n. nat_eq c n ≡ true) e (itself c)) k.0)

-- and the defined cells have the values of their terms
filled-defined : (base : Base) (ps : List ℕ) (values : List Value) (p : ℕ) → ReadsEarlier base ps → AreDistinctCells (cells_at base ps)
    → All (λ q. target_at base q < length values) ps → is_among p ps ≡ true →
    environment (filled base ps values) (target_at base p) ≡ term_value (environment (filled base ps values)) (term_at base p)
filled-defined base [] values p earlier once within h = absurd (cc)
filled-defined base (q ∷ ps) values p earlier once within h =
    let t : ℕ = target_at base q in
    let v : Value = term_value (environment values) (term_at base q) in
    let low : t < length values = All-head (λ r. target_at base r < length values) q ps within in
    cases (nat_eq p q)
    (λ (e : nat_eq p q ≡ true).
    subst (λ n. environment (filled base (q ∷ ps) values) (target_at base n) ≡ term_value (environment (filled base (q ∷ ps) values)) (term_at base n))
    (sym (same p q e))
    (filled-others base ps (set values t v) t once.0
    ∙ get_or-set_same values t v Undef low
    ∙ term_value-same (term_at base q) (environment values) (environment (filled base (q ∷ ps) values))
    (λ c r. sym (filled-others base (q ∷ ps) values c (earlier.0 c r)))))
    (λ (f : nat_eq p q ≡ false).
    filled-defined base ps (set values t v) p earlier.1 once.1
    (λ k d l. let w = within (suc k) d (omega arith) in omega (arith, length-set values t v))
    (ap (λ b. b || is_among p ps) (sym f) ∙ h))

-- computed in an order, the values solve the definitions
filled-solves : (base : Base) (sequence : List ℕ) (values : List Value) → IsValidBase base → IsOrder base sequence → length values ≡ base.cells
    → IsSolution base (environment values) (environment (filled base sequence values))
filled-solves base sequence values valid order size c =
    let out : Environment = environment (filled base sequence values) in
    let targets : All (λ q. target_at base q < length values) sequence = λ k d l.
    let p = order.within k d l in
    let t = valid.targets (get_or sequence k d) 0 (omega (arith, length-map base.definitions (λ (x : Definition). x.0))) in
    omega arith in
    option_cases (definition_of base c)
    (λ (n : definition_of base c ≡ None).
    filled-others base sequence values c
    (cases (is_among c (cells_at base sequence))
    (λ (h : is_among c (cells_at base sequence) ≡ true).
    let p = cells-among base c sequence h in
    let there = definition_of-target base p.0 valid.defined_once (within p.0 p.1) in
    absurd (none_some (sym n ∙ ap (definition_of base) (sym p.2) ∙ there)))
    (λ (f : is_among c (cells_at base sequence) ≡ false). f))
    ∙ sym (ap (λ o. option_map_or (term_value out) o (environment values c)) n))
    (λ t (s : definition_of base c ≡ Some t).
    let p = definition_of-position base c t s in
    subst (λ n. out n ≡ term_value out (term_at base p.0)) p.2
    (filled-defined base sequence values p.0 order.earlier (cells-distinct base sequence valid.defined_once order.within order.once) targets
    (order.every p.0 p.1))
    ∙ ap (term_value out) p.3
    ∙ sym (ap (λ o. option_map_or (term_value out) o (environment values c)) s))
  where
    none_some : {t : Tree} → None ≡ Some t → ⊥
    none_some e = cc

    within : (p : ℕ) → is_among p sequence ≡ true → p < length base.definitions
    within p h = All-among (λ q. q < length base.definitions) p sequence order.within h

pub filled-values : (base : Base) (sequence : List ℕ) (values : List Value) → IsValidBase base → IsOrder base sequence → length values ≡ base.cells → (c : ℕ)
    → environment (filled base sequence values) c ≡ value_of base (environment values) c
filled-values base sequence values valid order size c =
    one-solution base (environment values) (environment (filled base sequence values)) (ordered-free base sequence valid order)
    (filled-solves base sequence values valid order size) c

-- the first failure and the notes depend only on the values
pub failure_among-same : (labels : List Label) (e f : Environment) (checks : List Check) → ((c : ℕ) → e c ≡ f c)
    → failure_among labels e checks ≡ failure_among labels f checks
failure_among-same labels e f [] h = refl
failure_among-same labels e f (check ∷ checks) h =
    λ i. option_or (failure_of (term_value-same check.0 e f (λ c r. h c) i) (kind_at labels check.1) check.1) (failure_among-same labels e f checks h i)

pub notes_among-same : (labels : List Label) (e f : Environment) (checks : List Check) → ((c : ℕ) → e c ≡ f c)
    → notes_among labels e checks ≡ notes_among labels f checks
notes_among-same labels e f [] h = refl
notes_among-same labels e f (check ∷ checks) h =
    λ i. cons_option (note_of labels (term_value-same check.0 e f (λ c r. h c) i) check.1) (notes_among-same labels e f checks h i)

-- ---- the loop over the positions

-- the definition that the code reads at an index of an order
pub looked-up : (base : Base) (sequence items : List ℕ) (definitions : List Definition) (i : ℕ) (d : Definition) → IsOrder base sequence
    → definitions ≡ base.definitions → items ≡ sequence → i < length items → d ≡ get_or definitions (get_or items i 0) d →
    (get_or items i 0 < length base.definitions) × (d.0 ≡ target_at base (get_or items i 0)) × (d.1 ≡ term_at base (get_or items i 0))
looked-up base sequence items definitions i d order same_definitions same_items low is =
    let p : ℕ = get_or items i 0 in
    let within : p < length base.definitions = subst (λ (xs : List ℕ). get_or xs i 0 < length base.definitions) (sym same_items)
    (order.within i 0 (subst (λ (xs : List ℕ). i < length xs) same_items low)) in
    let found = definition-at base p d within (is ∙ ap (λ (xs : List Definition). get_or xs p d) same_definitions) in
    (within, found.0, found.1)
