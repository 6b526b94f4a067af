-- Uniqueness: up to a given rest there is at most one list of items.
use Rattle.std.proofs.Common.{◌≡◌, ◌<◌, ◌≤◌, Bool, true, false, List, [], ◌∷◌, length, Some, None, refl, sym, ap, ◌∙◌, subst, arith}
use Rattle.m_lexer.specs.declared.token.Token.{Token}
use Rattle.m_ast.specs.declared.item.Item.{Item}
use Rattle.m_ast.specs.declared.item.Item.TheVariants.{Rule, Verif}
use Rattle.m_terms.proofs.Passes.{behind_shorter}
use Rattle.m_items.proofs.Answered.{declaration_one}
use Rattle.m_items.specs.Many.{no_more, one_more}
use Rattle.m_items.proofs.RuleOneLaws.{rule_one, verification_one}
use Rattle.m_items.specs.Grammar.{SpellsItem, a_declaration, a_rule, a_verification, SpellsItems}
use Rattle.m_items.specs.inner.Reading.{item_at}
use Rattle.m_items.proofs.ItemLaws.{item_passes, ItemRuns, exact, longer, item_runs, rule_begins, verification_begins, no_rule_declared}
use Rattle.m_items.proofs.ItemLaws.{no_verification_declared, no_rule_verified}
use Rattle.m_items.proofs.ListLaws.{stuck}

same : {A : Type 0} {x y : A} → Some x ≡ Some y → x ≡ y
same e = cc

clash : {A : Type 0} {b : Bool} → b ≡ true → b ≡ false → A
clash e f = let h : true ≡ false = sym e ∙ f in absurd (cc)

item_one : {x y : Item} (ts : List Token) {r : List Token} → SpellsItem x ts r → SpellsItem y ts r → x ≡ y
item_one ts (a_declaration d) (a_declaration e) = (declaration_one _ _ _ _ _ d e).0
item_one ts (a_declaration d) (a_rule e) = clash (rule_begins ts e) (no_rule_declared ts d)
item_one ts (a_declaration d) (a_verification e) = clash (verification_begins ts e) (no_verification_declared ts d)
item_one ts (a_rule d) (a_declaration e) = clash (rule_begins ts d) (no_rule_declared ts e)
item_one ts (a_rule d) (a_rule e) = ap Rule (rule_one d e)
item_one ts (a_rule d) (a_verification e) = clash (rule_begins ts d) (no_rule_verified ts e)
item_one ts (a_verification d) (a_declaration e) = clash (verification_begins ts d) (no_verification_declared ts e)
item_one ts (a_verification d) (a_rule e) = clash (rule_begins ts e) (no_rule_verified ts d)
item_one ts (a_verification d) (a_verification e) = ap Verif (verification_one d e)

shrinks : {xs : List Item} {ts r : List Token} → SpellsItems xs ts r → length r ≤ length ts
shrinks no_more = omega arith
shrinks (one_more d e) = omega (arith, behind_shorter (item_passes _ _ _ d), shrinks e)

-- where no item begins, a list of items is at its end
none_left : {xs : List Item} {ts r : List Token} → item_at ts ≡ None → SpellsItems xs ts r → (xs ≡ []) × (ts ≡ r)
none_left none no_more = (refl, refl)
none_left none (one_more d e) = absurd (stuck d none)

too_short : (ts : List Token) {x y : Item} {a m b r : List Token} → item_at ts ≡ Some (x, a) → item_at ts ≡ Some (y, m) → length m < length b
    → length r ≤ length a → b ≡ r → ⊥
too_short ts {x} {y} {a} {m} e f less short at =
    let p : ◌≡◌ {A = Item × List Token} (x, a) (y, m) = same (sym e ∙ f) in
    let q : length a ≡ length m = ap (λ (z : Item × List Token). length z.1) p in
    let s = ap length at in
    omega (arith, less, short, q, s)

pairs : {x y : Item} {xs ys : List Item} (ts : List Token) {a b r : List Token} → ItemRuns x ts a → ItemRuns y ts b → SpellsItem x ts a → SpellsItem y ts b
    → SpellsItems xs a r → SpellsItems ys b r → (SpellsItems ys a r → xs ≡ ys) → (x ∷ xs) ≡ (y ∷ ys)
pairs {x} {y} {ys = ys} ts {a} {b} {r} (exact e) (exact f) d g m n again =
    let p : (x, a) ≡ (y, b) = same (sym e ∙ f) in
    let q = again (subst (λ t. SpellsItems ys t r) (λ i. (sym p i).1) n) in
    λ i. (p i).0 ∷ q i
pairs ts (exact e) (longer j k f less none) d g m n again = absurd (too_short ts e f less (shrinks m) (none_left none n).1)
pairs ts (longer j k f less none) (exact e) d g m n again = absurd (too_short ts e f less (shrinks n) (none_left none m).1)
pairs {x} {y} ts {r = r} (longer j k e less none) (longer i l f short no_item) d g m n again =
    let p = none_left none m in
    let q = none_left no_item n in
    let s = item_one ts (subst (λ t. SpellsItem x ts t) p.1 d) (subst (λ t. SpellsItem y ts t) q.1 g) in
    λ i. s i ∷ (p.0 ∙ sym q.0) i

items_same_rest : {xs ys : List Item} {ts r s : List Token} → SpellsItems xs ts r → SpellsItems ys ts s → r ≡ s → xs ≡ ys
items_same_rest no_more no_more h = refl
items_same_rest no_more (one_more d e) h = absurd (let l = ap length h in omega (arith, behind_shorter (item_passes _ _ _ d), shrinks e, l))
items_same_rest (one_more d e) no_more h = absurd (let l = ap length h in omega (arith, behind_shorter (item_passes _ _ _ d), shrinks e, l))
items_same_rest {ts = ts} {r = r} (one_more {mid = a} d e) (one_more {xs = ys} {mid = b} f g) h =
    let n = subst (λ m. SpellsItems ys b m) (sym h) g in
    pairs ts (item_runs d) (item_runs f) d f e n (λ k. items_same_rest e k refl)

pub items_one : (xs ys : List Item) (ts r : List Token) → SpellsItems xs ts r → SpellsItems ys ts r → xs ≡ ys
items_one xs ys ts r d e = items_same_rest d e refl
