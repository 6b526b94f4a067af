-- There are at most as many conditions as parts.
use Rattle.std.proofs.Common.{◌≡◌, ℕ, ◌+◌, ◌≤◌, Bool, true, false, cond, nat_lt, List, [], ◌∷◌, length, length-append, map, Some, None, Result, Ok, Err, refl}
use Rattle.std.proofs.Common.{ap, ◌∙◌, arith}
use Rattle.std.specs.Prelude.{IfOk}
use Rattle.std.specs.List.{flat_map, sum_by}
use Rattle.std.proofs.lemmas.Bool.{ltb-false}
use Rattle.std.proofs.lemmas.List.Sums.{sum_by-cons}
use Rattle.m_places.specs.Refusals.{Outcome}
use Rattle.m_places.specs.declared.limits.TheConstants.{PARTS}
use Rattle.m_ast.specs.declared.item.CheckItem.{CheckItem}
use Rattle.m_ast.specs.declared.item.VerifItem.{VerifItem}
use Rattle.m_ast.specs.declared.item.Item.{Item}
use Rattle.m_ast.specs.declared.item.Item.TheVariants.{Variable, Rule, Verif, Error, Silent}
use Rattle.m_symbols.specs.Declarations.{Declared}
use Rattle.m_ast.specs.declared.plain_rules.Plain.{Plain}
use Rattle.index_expand.specs.declared.fault.ExpandFault.{ExpandFault}
use Rattle.index_expand.specs.declared.fault.ExpandFault.TheVariants.{TooManyParts, Memory}
use Rattle.index_expand.specs.Expansion.{condition_of, item_conditions}
use Rattle.index_expand.specs.Faults.{check_parts, item_parts, item_place, too_many}

checks_few : (verif : VerifItem) (checks : List CheckItem) → length (map (condition_of verif) checks) ≤ sum_by check_parts checks
checks_few verif [] = omega arith
checks_few verif (check ∷ checks) = omega (arith, sum_by-cons check_parts check checks, checks_few verif checks)

item_few : (declared : Declared) (item : Item) → length (item_conditions item) ≤ item_parts declared item
item_few declared (Variable v) = omega arith
item_few declared (Rule r) = omega arith
item_few declared (Verif v) = checks_few v v.checks
item_few declared (Error e) = omega arith
item_few declared (Silent p) = omega arith

few_by : (declared : Declared) (before : ℕ) (item : Item) (items : List Item) (b : Bool) → nat_lt PARTS (before + item_parts declared item) ≡ b
    → cond b (Some (TooManyParts (item_place item))) (too_many declared (before + item_parts declared item) items) ≡ None
    → (before + item_parts declared item ≤ PARTS → too_many declared (before + item_parts declared item) items ≡ None
    → (before + item_parts declared item) + length (flat_map item_conditions items) ≤ PARTS)
    → before + length (flat_map item_conditions (item ∷ items)) ≤ PARTS
few_by declared before item items true t e rest = absurd (cc)
few_by declared before item items false t e rest =
    omega (
      arith,
      rest (ltb-false PARTS (before + item_parts declared item) t) e,
      item_few declared item,
      length-append (item_conditions item)
          (flat_map item_conditions items),
    )

few_from : (declared : Declared) (before : ℕ) (items : List Item) → before ≤ PARTS → too_many declared before items ≡ None
    → before + length (flat_map item_conditions items) ≤ PARTS
few_from declared before [] h e = omega arith
few_from declared before (item ∷ items) h e =
    few_by declared before item items (nat_lt PARTS (before + item_parts declared item)) refl e (few_from declared (before + item_parts declared item) items)

-- so a result has at most as many conditions as a base has parts
pub few_answered : (declared : Declared) (items : List Item) (result : Result Plain ExpandFault) (expanded : Plain)
    → expanded.conditions ≡ flat_map item_conditions items
    → Outcome Memory result (λ plain. (too_many declared 0 items ≡ None) × (plain ≡ expanded)) (λ fault. too_many declared 0 items ≡ Some fault)
    → IfOk result (λ plain. length plain.conditions ≤ PARTS)
few_answered declared items (Ok plain) expanded same h =
    let few = few_from declared 0 items (omega arith) h.0 in
    let whole = ap (λ (p : Plain). length p.conditions) h.1 ∙ ap length same in
    omega (arith, few, whole)
few_answered declared items (Err fault) expanded same h = tt
