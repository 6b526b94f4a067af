-- The tidy form of a program keeps the properties of its face.
use Rattle.std.proofs.Common.{◌≡◌, ℕ, zero, suc, ◌<◌, Bool, true, false, eqb, List, [], ◌∷◌, map, length, All, refl, sym, ap, ◌∙◌, subst, arith}
use mathlib.Core.Bool.{◌||◌}
use Rattle.std.specs.List.{AllByRecursion}
use Rattle.std.proofs.lemmas.Bool.{eq-eqb}
use Rattle.m_fixed.specs.declared.amount.Value.{Value}
use Rattle.m_fixed.specs.declared.amount.Value.TheVariants.{Undef, Num, Over}
use Rattle.micro_m.specs.Bases.{is_among}
use Rattle.observables.specs.declared.inputs.Coded.{Coded}
use Rattle.observables.specs.declared.inputs.InputType.{InputType}
use Rattle.observables.specs.Inputs.{IsValueOf, AreValuesOf}
use Rattle.flat_code.specs.declared.program.Check.{Check}
use Rattle.flat_code.specs.Facts.{IsPlain, ArePlain}
use Rattle.flat_code.specs.Passes.{HaveLabelsOf}
use Rattle.flat_code.specs.Tidy.{check_at}

-- a value that an input may have is plain
plain_value : (kind : InputType) (value : Value) → IsValueOf kind value → IsPlain value
plain_value kind Undef h = record { amount = tt; bounded = λ e. cc }
plain_value kind (Num z) h = record { amount = h.0; bounded = λ e. cc }
plain_value kind Over h = absurd h

-- values that inputs may have are plain
pub plain_values : (inputs : List Coded) (values : List Value) → AreValuesOf inputs values → ArePlain values
plain_values [] [] h = tt
plain_values [] (v ∷ vs) h = absurd h
plain_values (input ∷ inputs) [] h = tt
plain_values (input ∷ inputs) (v ∷ vs) h = (plain_value input.kind v h.0, plain_values inputs vs h.1)

-- the labels of new checks are below the bound, if those of old checks are and the new labels are
-- among the old
pub labels_kept : (n : ℕ) (old new : List Check) → All (λ check. check.label < n) old → HaveLabelsOf old new → AllByRecursion (λ check. check.label < n) new
labels_kept n old [] low same = tt
labels_kept n old (c ∷ cs) low same =
    let first = same 0 (omega arith) in
    let there = low first.0 (record { guard = 0; condition = 0; over_only = false; label = 0 }) first.1 in
    (subst (λ (m : ℕ). m < n) (sym first.2) there, labels_kept n old cs low (λ j q. same (suc j) (omega (arith, q))))

-- the same, by position
pub labels_all : (n : ℕ) (checks : List Check) → AllByRecursion (λ check. check.label < n) checks → All (λ check. check.label < n) checks
labels_all n [] low k d l = absurd (omega (arith, l))
labels_all n (c ∷ cs) low zero d l = low.0
labels_all n (c ∷ cs) low (suc k) d l = labels_all n cs low.1 k d (omega (arith, l))

-- the labels of new checks are among those of the old
label_among : (old : List Check) (i : ℕ) → i < length old → is_among (check_at old i).label (map (λ (c : Check). c.label) old) ≡ true
label_among [] i h = absurd (omega (arith, h))
label_among (c ∷ cs) zero h = ap (λ found. found || is_among c.label (map (λ (d : Check). d.label) cs)) (eq-eqb c.label c.label refl)
label_among (c ∷ cs) (suc i) h = or-last (eqb (check_at cs i).label c.label) _ (label_among cs i (omega (arith, h)))
  where
    or-last : (a b : Bool) → b ≡ true → (a || b) ≡ true
    or-last true b e = refl
    or-last false b e = e

pub labels_among : (old new : List Check) → HaveLabelsOf old new
    → AllByRecursion (λ check. is_among check.label (map (λ (c : Check). c.label) old) ≡ true) new
labels_among old [] same = tt
labels_among old (c ∷ cs) same =
    let first = same 0 (omega arith) in (
      ap (λ n. is_among n (map (λ (d : Check). d.label) old)) first.2 ∙ label_among old first.0 first.1,
      labels_among old cs (λ j q. same (suc j) (omega (arith, q))),
    )
