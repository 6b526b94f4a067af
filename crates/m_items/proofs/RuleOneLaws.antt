-- Uniqueness: up to a given rest there is at most one rule, and one verification.
use Rattle.std.proofs.Common.{◌≡◌, ◌≤◌, Bool, List, ◌∷◌, length, Option, Some, refl, sym, ap, ◌∙◌, subst, arith}
use Rattle.m_lexer.specs.declared.token.Token.{Token}
use Rattle.m_ast.specs.declared.item.Formula.{Formula}
use Rattle.m_ast.specs.declared.item.RuleItem.{RuleItem}
use Rattle.m_ast.specs.declared.item.VerifItem.{VerifItem}
use Rattle.m_terms.proofs.Passes.{Passes, behind_shorter}
use Rattle.m_items.specs.Many.{Many, no_more, one_more, OneOrMore, one}
use Rattle.m_items.specs.RuleGrammar.{rule_of, verification_of, SpellsFormula, SpellsChaining, SpellsRule, rule, SpellsCheck, SpellsVerification, verification}
use Rattle.m_items.specs.inner.RuleReading.{chaining_at}
use Rattle.m_items.proofs.RulePassLaws.{formula_passes, check_passes}
use Rattle.m_items.proofs.RuleCompleteLaws.{head_complete, formula_complete, chaining_complete, check_complete}

same : {A : Type 0} {x y : A} → Some x ≡ Some y → x ≡ y
same e = cc

module _ {A : Type 0} (R : A → List Token → List Token → Type 0) (p : List Token → Option (A × List Token)) (passes : Passes R)
    (complete : (x : A) (ts rest : List Token) → R x ts rest → p ts ≡ Some (x, rest)) where
  shrinks : {xs : List A} {ts r : List Token} → Many R xs ts r → length r ≤ length ts
  shrinks no_more = omega arith
  shrinks (one_more d e) = omega (arith, behind_shorter (passes _ _ _ d), shrinks e)

  many_one : {xs ys : List A} {ts r s : List Token} → Many R xs ts r → Many R ys ts s → r ≡ s → xs ≡ ys
  many_one no_more no_more h = refl
  many_one no_more (one_more d e) h = absurd (let l = ap length h in omega (arith, behind_shorter (passes _ _ _ d), shrinks e, l))
  many_one (one_more d e) no_more h = absurd (let l = ap length h in omega (arith, behind_shorter (passes _ _ _ d), shrinks e, l))
  many_one {s = r} (one_more {x = x} {mid = a} d e) (one_more {x = y} {xs = ys} {mid = b} f g) h =
      let q : (x, a) ≡ (y, b) = same (sym (complete _ _ _ d) ∙ complete _ _ _ f) in
      let s = many_one e (subst (λ m. Many R ys m r) (λ i. (sym q i).1) g) h in
      λ i. (q i).0 ∷ s i

  one_or_more_one : {xs ys : List A} {ts r : List Token} → OneOrMore R xs ts r → OneOrMore R ys ts r → xs ≡ ys
  one_or_more_one (one d e) (one f g) = many_one (one_more d e) (one_more f g) refl

chaining_before : {c : Bool} {fs : List Formula} {ts a r : List Token} → SpellsChaining c ts a → OneOrMore SpellsFormula fs a r → chaining_at ts ≡ Some (c, a)
chaining_before d (one f g) = chaining_complete d f

pub rule_one : {x y : RuleItem} {ts r : List Token} → SpellsRule x ts r → SpellsRule y ts r → x ≡ y
rule_one {r = r} (rule {h = h} {is_chained = c} {a = a} {b = b} d e f) (rule {h = g} {is_chained = k} {formulas = fs} {a = m} {b = n} u v w) =
    let p : (h, a) ≡ (g, m) = same (sym (head_complete d) ∙ head_complete u) in
    let q : (c, b) ≡ (k, n) = same (sym (chaining_before e f) ∙ (ap chaining_at (λ i. (p i).1) ∙ chaining_before v w)) in
    let s = one_or_more_one SpellsFormula _ formula_passes (λ _ _ _ z. formula_complete z) f
    (subst (λ m. OneOrMore SpellsFormula fs m r) (λ i. (sym q i).1) w) in
    λ i. rule_of ((p i).0) ((q i).0) (s i)

pub verification_one : {x y : VerifItem} {ts r : List Token} → SpellsVerification x ts r → SpellsVerification y ts r → x ≡ y
verification_one {r = r} (verification {h = h} {a = a} d e) (verification {h = g} {checks = cs} {a = m} u v) =
    let p : (h, a) ≡ (g, m) = same (sym (head_complete d) ∙ head_complete u) in
    let s = one_or_more_one SpellsCheck _ check_passes (λ _ _ _ z. check_complete z) e (subst (λ m. OneOrMore SpellsCheck cs m r) (λ i. (sym p i).1) v) in
    λ i. verification_of ((p i).0) (s i)
