-- Calls at a depth one less.
use Rattle.std.proofs.Common.{◌≡◌, ℕ, zero, suc, ◌-◌, ◌<◌, ◌≤◌, List, length, get_or, Some, None, refl, sym, ap, ◌∙◌, arith}
use Rattle.std.specs.Prelude.{slice_get}
use Rattle.std.proofs.lemmas.Option.{slice_get-get_or, slice_get_past}
use Rattle.micro_m.specs.declared.base.Base.{Base}
use Rattle.driver_core.specs.declared.program.Core.{Core}
use Rattle.driver_core.specs.Actions.{Action}
use Rattle.driver_core.specs.Valid.{body_of}
use Rattle.mpp_inline.specs.inner.Growth.{means, calls}

pub called-body : (core : Core) (base : Base) (sequence : List ℕ) (depth f : ℕ) → (depth ≡ 0 → ⊥)
    → means core base sequence (depth - 1) (body_of core f) ≡ calls core base sequence depth f
called-body core base sequence zero f h = absurd (h refl)
called-body core base sequence (suc n) f h =
    let one : suc n - 1 ≡ n = omega arith in
    ap (λ m. means core base sequence m (body_of core f)) one

-- the function of a number
pub found-at : (fs gs : List (List Action)) (n : ℕ) (f : List Action) → gs ≡ fs → n < length gs → f ≡ get_or gs n f → slice_get fs n ≡ Some f
found-at fs gs n f e h is = ap (λ l. slice_get l n) (sym e) ∙ slice_get-get_or gs n f h ∙ ap Some (sym is)

pub none-at : (fs gs : List (List Action)) (n : ℕ) → gs ≡ fs → length gs ≤ n → slice_get fs n ≡ None
none-at fs gs n e h = ap (λ l. slice_get l n) (sym e) ∙ slice_get_past gs n h
