-- A base has few cells, few labels and few checks: the declarations' limit and that of the parts bound them.
use Rattle.std.proofs.Common.{◌≡◌, ℕ, zero, suc, ◌+◌, ◌<◌, ◌≤◌, Bool, true, false, cond, List, [], ◌∷◌, ◌++◌, map, filter, length, Option, Some, None, Result}
use Rattle.std.proofs.Common.{Ok, Err, refl, sym, ap, ◌∙◌, subst, arith, replicate, length-append}
use Rattle.std.specs.Prelude.{nat_lt}
use Rattle.std.specs.List.{flat_map, sum_by}
use Rattle.std.specs.Option.{option_or}
use Rattle.std.proofs.lemmas.Bool.Decides.{nat_tests}
use Rattle.std.proofs.lemmas.List.{length-map}
use Rattle.std.proofs.lemmas.List.Sums.{sum_by-cons}
use Rattle.m_places.specs.declared.place.Place.{Place}
use Rattle.m_places.specs.declared.limits.TheConstants.{CELLS, PARTS}
use Rattle.m_places.specs.declared.verification.Label.{Label}
use Rattle.m_places.specs.declared.source.Text.{Text}
use Rattle.m_ast.specs.declared.item.Item.{Item}
use Rattle.m_ast.specs.declared.item.Item.TheVariants.{Variable, Rule, Verif, Error, Silent}
use Rattle.m_ast.specs.declared.item.CheckItem.{CheckItem}
use Rattle.m_ast.specs.Items.{variables_of, variable_cells}
use Rattle.m_symbols.specs.Declarations.{Declared, declared_by, placed_from, owners_from}
use Rattle.m_symbols.specs.declared.fault.DeclareFault.{DeclareFault}
use Rattle.m_symbols.specs.Faults.{fault_at, fault_behind, first_fault}
use Rattle.m_symbols.proofs.Faultless.{few_cells, parts as apart}
use Rattle.m_ast.specs.declared.plain_rules.Condition.{Condition}
use Rattle.index_expand.specs.declared.fault.ExpandFault.{ExpandFault}
use Rattle.index_expand.specs.declared.fault.ExpandFault.TheVariants.{TooManyParts}
use Rattle.index_expand.specs.Expansion.{counts_in, item_conditions, condition_of, expansion}
use Rattle.index_expand.specs.LoopFaults.{item_faults, least}
use Rattle.index_expand.specs.Faults.{check_parts, item_parts, item_place, too_many, expand_fault}
use Rattle.micro_m.specs.declared.base.Base.{Base}
use Rattle.micro_m.specs.Bases.{Definition}
use Rattle.micro_m.specs.Trees.{Tree}
use Rattle.m_resolve.specs.declared.fault.ResolveFault.{ResolveFault}
use Rattle.m_resolve.specs.Terms.{if_resolved, resolved_term}
use Rattle.m_resolve.specs.Bases.{Checks, error_named, resolved_label, with_condition, resolved_conditions, resolved_definitions, base_with, resolved}
use Rattle.rule_base.specs.Base.{IsBaseOf}

-- ---- cells

-- the cells of the variables among items
abbrev cells_in_items : List Item → ℕ
cells_in_items [] = 0
cells_in_items (Variable v ∷ items) = variable_cells v + cells_in_items items
cells_in_items (Rule r ∷ items) = cells_in_items items
cells_in_items (Verif v ∷ items) = cells_in_items items
cells_in_items (Error e ∷ items) = cells_in_items items
cells_in_items (Silent p ∷ items) = cells_in_items items

replicate-long : (n x : ℕ) → length (replicate n x) ≡ n
replicate-long zero x = refl
replicate-long (suc n) x = ap suc (replicate-long n x)

owned : (n m : ℕ) (items : List Item) → length (owners_from n (placed_from m (variables_of items))) ≡ cells_in_items items
owned n m [] = refl
owned n m (Variable v ∷ items) = omega (
  arith,
  length-append (replicate (variable_cells v) n)
      (owners_from (n + 1) (placed_from (m + variable_cells v) (variables_of items))),
  replicate-long (variable_cells v) n,
  owned (n + 1) (m + variable_cells v)
      items,
)
owned n m (Rule r ∷ items) = owned n m items
owned n m (Verif v ∷ items) = owned n m items
owned n m (Error e ∷ items) = owned n m items
owned n m (Silent p ∷ items) = owned n m items

cells-more : (items others : List Item) → cells_in_items (items ++ others) ≡ cells_in_items items + cells_in_items others
cells-more [] others = omega arith
cells-more (Variable v ∷ items) others = omega (arith, cells-more items others)
cells-more (Rule r ∷ items) others = cells-more items others
cells-more (Verif v ∷ items) others = cells-more items others
cells-more (Error e ∷ items) others = cells-more items others
cells-more (Silent p ∷ items) others = cells-more items others

item-within : (earlier : List Item) (item : Item) → fault_at (declared_by earlier) item ≡ None → cells_in_items earlier ≤ CELLS
    → cells_in_items earlier + cells_in_items (item ∷ []) ≤ CELLS
item-within earlier (Variable v) e h = omega (arith, few_cells (declared_by earlier) v e, owned 0 0 earlier)
item-within earlier (Rule r) e h = omega (arith, h)
item-within earlier (Verif v) e h = omega (arith, h)
item-within earlier (Error x) e h = omega (arith, h)
item-within earlier (Silent p) e h = omega (arith, h)

cells-within : (earlier items : List Item) → fault_behind earlier items ≡ None → cells_in_items earlier ≤ CELLS
    → cells_in_items earlier + cells_in_items items ≤ CELLS
cells-within earlier [] e h = omega (arith, h)
cells-within earlier (item ∷ later) e h =
    let parts = apart (fault_at (declared_by earlier) item) (fault_behind (earlier ++ item ∷ []) later) e in
    let one = item-within earlier item parts.0 h in
    omega (
      arith,
      cells-within (earlier ++ item ∷ []) later parts.1 (omega (arith, one, cells-more earlier (item ∷ []))),
      cells-more earlier (item ∷ []),
      cells-more (item ∷ []) later,
    )

-- ---- labels

label-more : (declared : Declared) (before stated : Checks) (condition : Condition) → with_condition declared before condition ≡ Ok stated
    → length stated.1 ≡ length before.1 + 1
label-more declared before stated condition e = by (resolved_term declared condition.term) (resolved_label condition (error_named declared condition.error)) e
  where
    labels : Result Checks ResolveFault → ℕ
    labels (Ok checks) = length checks.1
    labels (Err fault) = 0

    by : (t : Result Tree ResolveFault) (l : Result Label ResolveFault)
        → if_resolved (λ tree. if_resolved (λ label. Ok (before.0 ++ (tree, length before.1, condition.place) ∷ [], before.1 ++ label ∷ [])) l) t ≡ Ok stated
        → length stated.1 ≡ length before.1 + 1
    by (Err f) l h = absurd (cc)
    by (Ok tree) (Err f) h = absurd (cc)
    by (Ok tree) (Ok label) h = sym (ap labels h) ∙ length-append before.1 (label ∷ [])

labels-are : (declared : Declared) (before stated : Checks) (conditions : List Condition) → resolved_conditions declared before conditions ≡ Ok stated
    → length stated.1 ≡ length before.1 + length conditions
labels-are declared before stated [] e =
    let same : before ≡ stated = cc in
    omega (arith, ap (λ (c : Checks). length c.1) same)
labels-are declared before stated (condition ∷ conditions) e = by (with_condition declared before condition) refl e
    (λ next h. labels-are declared next stated conditions h)
  where
    by : (r : Result Checks ResolveFault) → with_condition declared before condition ≡ r
        → if_resolved (λ next. resolved_conditions declared next conditions) r ≡ Ok stated
        → ((next : Checks) → resolved_conditions declared next conditions ≡ Ok stated → length stated.1 ≡ length next.1 + length conditions)
        → length stated.1 ≡ length before.1 + length (condition ∷ conditions)
    by (Err f) is h more = absurd (cc)
    by (Ok next) is h more = omega (arith, label-more declared before next condition is, more next h)

base-labels : (declared : Declared) (conditions : List Condition) (d : Result (List Definition) ResolveFault) (c : Result Checks ResolveFault) (base : Base)
    → resolved_conditions declared ([], []) conditions ≡ c → if_resolved (λ definitions. if_resolved (λ checks. Ok (base_with declared definitions checks)) c)
    d ≡ Ok base → length base.labels ≡ length conditions
base-labels declared conditions (Err f) c base is e = absurd (cc)
base-labels declared conditions (Ok ds) (Err f) base is e = absurd (cc)
base-labels declared conditions (Ok ds) (Ok checks) base is e =
    let same : base_with declared ds checks ≡ base = cc in
    omega (arith, ap (λ (b : Base). length b.labels) same, labels-are declared ([], []) checks conditions is)

-- ---- checks

check-more : (declared : Declared) (before stated : Checks) (condition : Condition) → with_condition declared before condition ≡ Ok stated
    → length stated.0 ≡ length before.0 + 1
check-more declared before stated condition e = by (resolved_term declared condition.term) (resolved_label condition (error_named declared condition.error)) e
  where
    counted : Result Checks ResolveFault → ℕ
    counted (Ok checks) = length checks.0
    counted (Err fault) = 0

    by : (t : Result Tree ResolveFault) (l : Result Label ResolveFault)
        → if_resolved (λ tree. if_resolved (λ label. Ok (before.0 ++ (tree, length before.1, condition.place) ∷ [], before.1 ++ label ∷ [])) l) t ≡ Ok stated
        → length stated.0 ≡ length before.0 + 1
    by (Err f) l h = absurd (cc)
    by (Ok tree) (Err f) h = absurd (cc)
    by (Ok tree) (Ok label) h = sym (ap counted h) ∙ length-append before.0 ((tree, length before.1, condition.place) ∷ [])

checks-are : (declared : Declared) (before stated : Checks) (conditions : List Condition) → resolved_conditions declared before conditions ≡ Ok stated
    → length stated.0 ≡ length before.0 + length conditions
checks-are declared before stated [] e =
    let same : before ≡ stated = cc in
    omega (arith, ap (λ (c : Checks). length c.0) same)
checks-are declared before stated (condition ∷ conditions) e = by (with_condition declared before condition) refl e
    (λ next h. checks-are declared next stated conditions h)
  where
    by : (r : Result Checks ResolveFault) → with_condition declared before condition ≡ r
        → if_resolved (λ next. resolved_conditions declared next conditions) r ≡ Ok stated
        → ((next : Checks) → resolved_conditions declared next conditions ≡ Ok stated → length stated.0 ≡ length next.0 + length conditions)
        → length stated.0 ≡ length before.0 + length (condition ∷ conditions)
    by (Err f) is h more = absurd (cc)
    by (Ok next) is h more = omega (arith, check-more declared before next condition is, more next h)

base-checks : (declared : Declared) (conditions : List Condition) (d : Result (List Definition) ResolveFault) (c : Result Checks ResolveFault) (base : Base)
    → resolved_conditions declared ([], []) conditions ≡ c → if_resolved (λ definitions. if_resolved (λ checks. Ok (base_with declared definitions checks)) c)
    d ≡ Ok base → length base.checks ≡ length conditions
base-checks declared conditions (Err f) c base is e = absurd (cc)
base-checks declared conditions (Ok ds) (Err f) base is e = absurd (cc)
base-checks declared conditions (Ok ds) (Ok checks) base is e =
    let same : base_with declared ds checks ≡ base = cc in
    omega (arith, ap (λ (b : Base). length b.checks) same, checks-are declared ([], []) checks conditions is)

-- ---- limits

base-cells : (declared : Declared) (d : Result (List Definition) ResolveFault) (c : Result Checks ResolveFault) (base : Base)
    → if_resolved (λ definitions. if_resolved (λ checks. Ok (base_with declared definitions checks)) c) d ≡ Ok base
    → base.cells ≡ length (owners_from 0 declared.variables)
base-cells declared (Err f) c base e = absurd (cc)
base-cells declared (Ok ds) (Err f) base e = absurd (cc)
base-cells declared (Ok ds) (Ok checks) base e =
    let same : base_with declared ds checks ≡ base = cc in
    ap (λ (b : Base). b.cells) (sym same)

checks-few : (checks : List CheckItem) → length checks ≤ sum_by check_parts checks
checks-few [] = omega arith
checks-few (check ∷ checks) = omega (arith, sum_by-cons check_parts check checks, checks-few checks)

conditions-few : (declared : Declared) (item : Item) → length (item_conditions item) ≤ item_parts declared item
conditions-few declared (Variable v) = omega arith
conditions-few declared (Rule r) = omega arith
conditions-few declared (Verif v) = omega (arith, length-map v.checks (condition_of v), checks-few v.checks)
conditions-few declared (Error e) = omega arith
conditions-few declared (Silent p) = omega arith

unless : (b : Bool) (f : ExpandFault) (rest : Option ExpandFault) → cond b (Some f) rest ≡ None → (b ≡ false) × (rest ≡ None)
unless true f rest e = (cc, cc)
unless false f rest e = (refl, e)

not_above : (n : ℕ) → nat_lt 2000000 n ≡ false → n ≤ 2000000
not_above n e = grind (arith, nat_tests)

all-few : (declared : Declared) (before : ℕ) (items : List Item) → too_many declared before items ≡ None → before ≤ 2000000
    → before + length (flat_map item_conditions items) ≤ 2000000
all-few declared before [] e h = omega (arith, h)
all-few declared before (item ∷ items) e h =
    let u = unless (nat_lt 2000000 (before + item_parts declared item)) (TooManyParts (item_place item))
    (too_many declared (before + item_parts declared item) items) e in
    let low = not_above (before + item_parts declared item) u.0 in
    omega (
      arith,
      all-few declared (before + item_parts declared item) items u.1 low,
      conditions-few declared item,
      length-append (item_conditions item)
          (flat_map item_conditions items),
    )

or-none : (a b : Option ExpandFault) → option_or a b ≡ None → b ≡ None
or-none None b e = e
or-none (Some x) b e = cc

-- ---- a base

-- what the limits imply of a base
pub few-cells : {texts : List Text} {application : List ℕ} {declared : Declared} {base : Base} → IsBaseOf texts application declared base → base.cells ≤ CELLS
few-cells {texts} {application} {declared} {base} m =
    omega (
      arith,
      base-cells declared (resolved_definitions declared [] (expansion m.items application declared).definitions)
          (resolved_conditions declared ([], []) (expansion m.items application declared).conditions) base m.resolves,
      ap (λ (d : Declared). length (owners_from 0 d.variables)) m.symbols,
      owned 0 0 m.items,
      cells-within [] m.items m.declares.faultless (omega arith),
    )

pub few-labels : {texts : List Text} {application : List ℕ} {declared : Declared} {base : Base} → IsBaseOf texts application declared base
    → length base.labels ≤ PARTS
few-labels {texts} {application} {declared} {base} m =
    let counted = filter (counts_in application) m.items in
    let plain = expansion m.items application declared in
    omega (
      arith,
      base-labels declared plain.conditions (resolved_definitions declared [] plain.definitions) (resolved_conditions declared ([], []) plain.conditions) base
          refl m.resolves,
      all-few declared 0 counted (or-none (least None (flat_map item_faults counted)) (too_many declared 0 counted) m.expands) (omega arith),
    )

pub few-checks : {texts : List Text} {application : List ℕ} {declared : Declared} {base : Base} → IsBaseOf texts application declared base
    → length base.checks ≤ PARTS
few-checks {texts} {application} {declared} {base} m =
    let counted = filter (counts_in application) m.items in
    let plain = expansion m.items application declared in
    omega (
      arith,
      base-checks declared plain.conditions (resolved_definitions declared [] plain.definitions) (resolved_conditions declared ([], []) plain.conditions) base
          refl m.resolves,
      all-few declared 0 counted (or-none (least None (flat_map item_faults counted)) (too_many declared 0 counted) m.expands) (omega arith),
    )
