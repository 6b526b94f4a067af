-- Labels, checks and notes: what a node, a check and a note add, and what functions add.
use Rattle.std.proofs.Common.{◌≡◌, ℕ, zero, suc, ◌-◌, Bool, true, false, cond, List, [], ◌∷◌, ◌++◌, map, length, refl, sym, ap, ◌∙◌, subst, arith}
use Rattle.std.proofs.lemmas.List.{map-append}
use Rattle.m_places.specs.declared.verification.Label.{Label}
use Rattle.micro_m.specs.Failures.{is_stopping, kind_at}
use Rattle.flat_code.specs.declared.program.Node.{Node}
use Rattle.flat_code.specs.declared.program.Check.{Check}
use Rattle.driver_core.specs.Valid.{body_of}
use Rattle.mpp_inline.specs.Labelling.{Labelling, with_check, with_line, with_block, with_rules, with_body}
use Rattle.mpp_inline.specs.declared.builder.Builder.{Builder}
use Rattle.mpp_inline.specs.inner.Growth.{Pushed, Checked, CheckedRule, CheckedLine, NotedAt}
use Rattle.mpp_inline.specs.inner.Labels.{labelling_by}
use Rattle.mpp_inline.specs.inner.Work.{Whole}

-- a node adds none
pub pushed-labelling : {b c : Builder} {n : Node} {k : ℕ} → Pushed b c n k → labelling_by c ≡ labelling_by b
pushed-labelling p = λ i. record {
  labels = p.labels i;
  checks = map (λ (c : Check). c.label) (p.checks i);
  notes = map (λ (n : ℕ × ℕ). n.1) (p.notes i);
}

checked-numbers : {b c : Builder} {g k l : ℕ} {only : Bool} → Checked b c g k only l
    → map (λ (d : Check). d.label) c.checks.items ≡ map (λ (d : Check). d.label) b.checks.items ++ l ∷ []
checked-numbers {b} {c} {g} {k} {l} {only} p =
    ap (map (λ (d : Check). d.label)) p.checks
    ∙ map-append (λ (d : Check). d.label) b.checks.items (record { guard = g; condition = k; over_only = only; label = l } ∷ [])

-- the check of an `if`
pub line-labelling : {b c : Builder} {g k line : ℕ} → CheckedLine b c g k line → labelling_by c ≡ with_line line (labelling_by b)
line-labelling p = λ i. record {
  labels = p.labels i;
  checks = checked-numbers p.base i;
  notes = map (λ (n : ℕ × ℕ). n.1) (p.base.notes i);
}

-- a check of the rules that stops the run, and one that is noted
pub rule-labelling : {b c : Builder} {g k : ℕ} (labels : List Label) (l : ℕ) → is_stopping (kind_at labels l) ≡ true → CheckedRule b c g k false l
    → labelling_by c ≡ with_check labels l (labelling_by b)
rule-labelling {b} {c} labels l kind p = λ i. record {
  labels = p.labels i;
  checks = checked-numbers p.base i;
  notes = (ap (map (λ (n : ℕ × ℕ). n.1)) p.base.notes
      ∙ sym (ap (λ stops. cond stops (labelling_by b).notes ((labelling_by b).notes ++ l ∷ [])) kind)) i;
}

pub noted-labelling : {b d0 d1 d2 c : Builder} {g k i j : ℕ} {n m : Node} (labels : List Label) (l : ℕ) → is_stopping (kind_at labels l) ≡ false
    → CheckedRule b d0 g k true l → Pushed d0 d1 n i → Pushed d1 d2 m j → NotedAt d2 c j l → labelling_by c ≡ with_check labels l (labelling_by b)
noted-labelling {b} {d0} {d1} {d2} {c} {g} {k} {i} {j} labels l kind p q1 q2 n =
    let before : labelling_by d2 ≡ labelling_by d0 = pushed-labelling q2 ∙ pushed-labelling q1 in
    λ x. record {
      labels = (n.labels ∙ ap (λ (s : Labelling). s.labels) before ∙ p.labels) x;
      checks = (ap (map (λ (d : Check). d.label)) n.checks ∙ ap (λ (s : Labelling). s.checks) before ∙ checked-numbers p.base) x;
      notes = (ap (map (λ (d : ℕ × ℕ). d.1)) n.notes
          ∙ map-append (λ (d : ℕ × ℕ). d.1) d2.notes.items ((j, l) ∷ [])
          ∙ ap (λ ns. ns ++ l ∷ []) (ap (λ (s : Labelling). s.notes) before ∙ ap (map (λ (d : ℕ × ℕ). d.1)) p.base.notes)
          ∙ sym (ap (λ stops. cond stops (labelling_by b).notes ((labelling_by b).notes ++ l ∷ [])) kind)) x;
    }

-- the body of a function, at a depth one less
pub body-adds : (whole : Whole) (depth f : ℕ) (l : Labelling) → (depth ≡ 0 → ⊥)
    → with_block (with_rules whole.ordered.base) (with_body whole.ordered.base whole.core.bodies (depth - 1)) (body_of whole.core f) l
    ≡ with_body whole.ordered.base whole.core.bodies depth f l
body-adds whole zero f l h = absurd (h refl)
body-adds whole (suc n) f l h =
    let one : suc n - 1 ≡ n = omega arith in
    ap (λ m. with_block (with_rules whole.ordered.base) (with_body whole.ordered.base whole.core.bodies m) (body_of whole.core f) l) one
