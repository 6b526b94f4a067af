-- Values of inputs that admit every amount.
use Rattle.std.proofs.Common.{◌≡◌, ℕ, ℤ, pos, negsuc, ◌≤◌, ◌<◌, leb, cond, zero, suc, Bool, true, false, List, [], ◌∷◌, length, set, Option, None, Some, Result}
use Rattle.std.proofs.Common.{Ok, Err, refl, sym, subst, arith}
use Rattle.std.proofs.lemmas.Int.{ints}
use Rattle.std.proofs.lemmas.Bool.{leb-true}
use Rattle.std.specs.Prelude.{unsigned_abs}
use Rattle.std.specs.List.{AllByRecursion, AllZip}
use Rattle.m_fixed.specs.Amounts.{IsAmount, most}
use Rattle.m_fixed.specs.Text.{amount_read}
use Rattle.m_fixed.specs.declared.read.AmountFault.TheVariants.{TooGreat}
use Rattle.m_fixed.specs.declared.amount.Value.{Value}
use Rattle.m_fixed.specs.declared.amount.Value.TheVariants.{Undef, Num, Over}
use Rattle.observables.specs.declared.inputs.Coded.{Coded}
use Rattle.observables.specs.declared.inputs.InputType.TheVariants.{Any}
use Rattle.observables.specs.Inputs.{AreAny, AreValuesOf, IsValueOf}

amount_of_size : (z : ℤ) → unsigned_abs z ≤ most → IsAmount z
amount_of_size (pos n) h = record { low = omega (arith, ints); high = omega (arith, ints) }
amount_of_size (negsuc n) h = record { low = omega (arith, ints); high = omega (arith, ints) }

-- an amount that was parsed is one
pub read_amount : (stated : Option ℤ) (z : ℤ) → amount_read stated ≡ Ok z → IsAmount z
read_amount None z h = cc h
read_amount (Some y) z h = by (leb (unsigned_abs y) most) refl h
  where
    by : (b : Bool) → leb (unsigned_abs y) most ≡ b → cond b (Ok y) (Err TooGreat) ≡ Ok z → IsAmount z
    by true e g = let same : y ≡ z = cc in subst IsAmount same (amount_of_size y (leb-true _ _ e))
    by false e g = cc g

-- an input that admits every amount admits every value except over
pub value_of_any : (input : Coded) (v : Value) → input.kind ≡ Any → IsValueOf Any v → IsValueOf input.kind v
value_of_any input v any h = subst (λ kind. IsValueOf kind v) (sym any) h

-- one value is replaced by another that its input admits
pub set-value : (inputs : List Coded) (values : List Value) (number : ℕ) (v : Value) → AreAny inputs → AreValuesOf inputs values → IsValueOf Any v
    → AreValuesOf inputs (set values number v)
set-value [] [] number v any all h = all
set-value [] (w ∷ values) number v any all h = absurd all
set-value (input ∷ inputs) [] number v any all h = absurd all
set-value (input ∷ inputs) (w ∷ values) zero v any all h = (value_of_any input v any.0 h, all.1)
set-value (input ∷ inputs) (w ∷ values) (suc number) v any all h = (all.0, set-value inputs values number v any.1 all.1 h)
