-- Reading follows every spelling, and may continue after it: rules and verifications.
use Rattle.std.proofs.Common.{◌≡◌, ◌≤◌, ◌<◌, Bool, List, [], ◌∷◌, ◌++◌, length, Option, Some, None, refl, sym, ap, ◌∙◌, subst, append_assoc, arith}
use Rattle.std.proofs.lemmas.List.{append-nil}
use Rattle.m_lexer.specs.declared.token.Token.{Token}
use Rattle.m_lexer.specs.declared.token.Key.TheVariants as keys
use Rattle.m_ast.specs.declared.item.Formula.{Formula}
use Rattle.m_ast.specs.declared.item.CheckItem.{CheckItem}
use Rattle.m_ast.specs.declared.item.RuleItem.{RuleItem}
use Rattle.m_ast.specs.declared.item.VerifItem.{VerifItem}
use Rattle.m_lexer.proofs.ChainSound.{Each, absent, here, Sound}
use Rattle.m_terms.proofs.Passes.{Passes, behind_shorter}
use Rattle.m_items.specs.Many.{Many, no_more, one_more, OneOrMore, one}
use Rattle.m_items.specs.RuleGrammar.{rule_of, verification_of, SpellsFormula, SpellsRule, rule, SpellsCheck, SpellsVerification, verification}
use Rattle.m_items.specs.declared.head.Head.{Head}
use Rattle.m_items.specs.inner.RuleReading.{head_at, chaining_at, one_or_more_at, formula_at, rule_at, check_at, verification_at}
use Rattle.m_items.proofs.Manys.{Going, many_start, many_turn, many_stop}
use Rattle.m_items.proofs.RuleSoundLaws.{many_sound, formula_sound, check_sound}
use Rattle.m_items.proofs.RulePassLaws.{formula_passes, check_passes}
use Rattle.m_items.proofs.RuleCompleteLaws.{head_complete, formula_complete, chaining_complete, check_complete}

-- reading gives the tree x up to r; or it continues after r, where another R begins
pub data RunsOn {A X : Type 0} (R : A → List Token → List Token → Type 0) (read : Option (X × List Token)) (x : X) (r : List Token) : Type 0 where
  just : read ≡ Some (x, r) → RunsOn R read x r
  beyond : (y : X) (m : List Token) (z : A) (s : List Token) → read ≡ Some (y, m) → length m < length r → R z r s → RunsOn R read x r

pub found_at : {A : Type 0} {P : A → Type 0} {o : Option A} {x : A} → Each P o → o ≡ Some x → P x
found_at absent e = absurd (cc)
found_at {P = P} {x = x} (here {x = y} p) e = let same : y ≡ x = cc in subst P same p

module _ {A : Type 0} (R : A → List Token → List Token → Type 0) (p : List Token → Option (A × List Token)) (sound : Sound R p) (passes : Passes R) where
  many_shrinks : {xs : List A} {ts r : List Token} → Many R xs ts r → length r ≤ length ts
  many_shrinks no_more = omega arith
  many_shrinks (one_more d e) = omega (arith, behind_shorter (passes _ _ _ d), many_shrinks e)

  pub going_shrinks : {whole : List A × List Token} {done : List A} {ts : List Token} → Going p whole done ts → length whole.1 ≤ length ts
  going_shrinks {done = done} {ts = ts} g = let q = many_shrinks (many_sound R p sound g.left done ts).many in let e = ap
      (λ (w : List A × List Token). length w.1) g.same in omega (arith, q, e)

  -- R has one reading, and p gives it
  module _ (complete : (x : A) (ts rest : List Token) → R x ts rest → p ts ≡ Some (x, rest)) where
    many_going : {whole : List A × List Token} {xs : List A} {ts r : List Token} → Many R xs ts r → (done : List A) → Going p whole done ts
        → Going p whole (done ++ xs) r
    many_going {whole} {ts = ts} no_more done g = subst (λ l. Going p whole l ts) (sym (append-nil done)) g
    many_going {whole} {r = r} (one_more {x = x} {xs = xs} d e) done g =
        subst (λ l. Going p whole l r) (append_assoc done (x ∷ []) xs)
        (many_going e (done ++ x ∷ []) (many_turn p g (complete _ _ _ d) (behind_shorter (passes _ _ _ d))))

    ends : {whole : List A × List Token} {xs : List A} (ts : List Token) {r : List Token} → one_or_more_at p ts ≡ Some whole → Going p whole xs r
        → (o : Option (A × List Token)) → p r ≡ o → RunsOn R (one_or_more_at p ts) xs r
    ends ts all g None e = just (all ∙ ap Some (many_stop p g e))
    ends {whole} ts {r} all g (Some z) e =
        let d : R z.0 r z.1 = found_at (sound r) e in
        let less = behind_shorter (passes _ _ _ d) in
        beyond whole.0 whole.1 z.0 z.1 all (omega (arith, less, going_shrinks (many_turn p g e less))) d

    pub one_or_more_runs : {xs : List A} {ts r : List Token} → OneOrMore R xs ts r → RunsOn R (one_or_more_at p ts) xs r
    unfolding one_or_more_at
    one_or_more_runs {ts = ts} {r = r} (one {x = x} d e) = ends ts (rw (complete _ _ _ d) refl) (many_going e (x ∷ []) (many_start p refl)) (p r) refl

-- Rules.
rule_from : {h : Head} {c : Bool} {fs : List Formula} (ts a b : List Token) {r : List Token} → head_at keys.Regle ts ≡ Some (h, a) → chaining_at a ≡ Some (c, b)
    → RunsOn SpellsFormula (one_or_more_at formula_at b) fs r → RunsOn SpellsFormula (rule_at ts) (rule_of h c fs) r
unfolding rule_at
rule_from ts a b d e (just f) = just (rw (d, e, f) refl)
rule_from {h = h} {c = c} ts a b d e (beyond y m z s f less g) = beyond (rule_of h c y) m z s (rw (d, e, f) refl) less g

pub rule_runs : {x : RuleItem} {ts r : List Token} → SpellsRule x ts r → RunsOn SpellsFormula (rule_at ts) x r
rule_runs (rule d e (one f g)) = rule_from _ _ _ (head_complete d) (chaining_complete e f)
    (one_or_more_runs SpellsFormula formula_at formula_sound formula_passes (λ _ _ _ k. formula_complete k) (one f g))

-- Verifications.
verification_from : {h : Head} {cs : List CheckItem} (ts a : List Token) {r : List Token} → head_at keys.Verif ts ≡ Some (h, a)
    → RunsOn SpellsCheck (one_or_more_at check_at a) cs r → RunsOn SpellsCheck (verification_at ts) (verification_of h cs) r
unfolding verification_at
verification_from ts a d (just f) = just (rw (d, f) refl)
verification_from {h = h} ts a d (beyond y m z s f less g) = beyond (verification_of h y) m z s (rw (d, f) refl) less g

pub verification_runs : {x : VerifItem} {ts r : List Token} → SpellsVerification x ts r → RunsOn SpellsCheck (verification_at ts) x r
verification_runs (verification d e) = verification_from _ _ (head_complete d)
    (one_or_more_runs SpellsCheck check_at check_sound check_passes (λ _ _ _ k. check_complete k) e)
