use Rattle.std.proofs.Common.{◌≡◌, ◌≢◌, Bool, true, false, not, ℤ, pos, ◌≤ℤ◌, ◌⊎◌, is_none, refl, ap, sym, ◌∙◌, subst, inl, inr, ⊎_elim, arith}
use mathlib.Core.Bool.{◌&&◌, ◌||◌}
use Rattle.std.proofs.lemmas.Bool.{true≢false, or_left, or_right}
use Rattle.std.proofs.lemmas.Int.{ints, clamps, by_lt_z}
use Rattle.std.specs.Ordering.{int_eq}
use Rattle.std.specs.Prelude.{int_lt, Option, Some, None, if◌then◌else◌}
use Rattle.m_fixed.specs.declared.amount.Value.{Value}
use Rattle.m_fixed.specs.declared.amount.Value.TheVariants.{Undef, Num, Over}
use Rattle.m_fixed.specs.declared.operator.Op.{Op}
use Rattle.m_fixed.specs.declared.operator.Op.TheVariants.{Neg, Not, Present, Abs, Positive, PositiveOrNull, Null, Arr, Inf, Truth, Choose}
use Rattle.m_fixed.specs.Amounts.{IsAmount, unit}
use Rattle.m_fixed.specs.Laws.{IsValue}
use Rattle.m_fixed.specs.Operators.{op_value, of_one, of_two, bounded, result_of, truth, truth_of, chosen, is_zero, counts_undefined_as_zero}
use Rattle.definedness.specs.Ranges.{InRange, InSome, IsWithin, alone, join, has_zero, has_other, may_be_zero, may_be_other, lowest_amount, highest_amount}
use Rattle.definedness.specs.Ranges.{cut_to_amounts, leaves_amounts}
use Rattle.definedness.specs.Results.{results_of}
use Rattle.definedness.specs.Facts.{Possible, Holds, IsFact, one_number, one_of, one_value, is_over_alone, over_alone, fact_of_value, fact_of_input}
use Rattle.definedness.specs.Facts.{bounded_fact, fact_of_ranges, presence, fact_of_one, widened, fact_of_two_widened, fact_of_two, truths_of, truth_fact}
use Rattle.definedness.specs.Facts.{either, if_taken, choice, fact_of}
use Rattle.definedness.proofs.Beyond.{bounded_amount, is_over_below, is_over_above}
use Rattle.definedness.proofs.Cuts.{below, not_below}
use Rattle.definedness.proofs.Holding.{results_hold, in_truths, in_alone, zero_in, other_in, not_true, not_false}

int_eq_same : (x : ℤ) → int_eq x x ≡ true
int_eq_same x = grind (arith, ints)

pub value_fact_is_one : (v : Value) → one_value (fact_of_value v) ≡ Some v
value_fact_is_one Undef = refl
value_fact_is_one Over = refl
value_fact_is_one (Num x) = rw (int_eq_same x) refl

pub input_fact_holds : (v : Value) → IsValue v → v ≢ Over → Holds fact_of_input v
input_fact_holds Undef h n = refl
input_fact_holds Over h n = absurd (n refl)
input_fact_holds (Num x) h n = (h.low, h.high)

-- ---- facts that are one value

some_same : (v w : Value) → Some v ≡ Some w → v ≡ w
some_same v w e = cc

none_some : (w : Value) → None ≡ Some w → ⊥
none_some w e = cc

int_eq_true : (a b : ℤ) → int_eq a b ≡ true → a ≡ b
int_eq_true a b e = grind (arith, ints)

int_between : (a b x : ℤ) → a ≤ℤ x → x ≤ℤ b → a ≡ b → x ≡ a
int_between a b x l u e = omega (arith, ints)

one_in : (r : ℤ × ℤ) (w : Value) (x : ℤ) → InRange r x → one_number (Some r) ≡ Some w → Num x ≡ w
one_in r w x h e = go (int_eq r.0 r.1) refl e
  where
    go : (b : Bool) → int_eq r.0 r.1 ≡ b → (if b then Some (Num r.0) else None) ≡ Some w → Num x ≡ w
    go true d e = ap (λ z. Num z) (int_between r.0 r.1 x h.0 h.1 (int_eq_true r.0 r.1 d)) ∙ some_same (Num r.0) w e
    go false d e = absurd (none_some w e)

one_holds_alone : (u o : Bool) (r : Option (ℤ × ℤ)) (v w : Value) → Holds (record { undef = u; over = o; range = r }) v → one_of u o r ≡ Some w → v ≡ w
one_holds_alone true false None Undef w h e = cc
one_holds_alone true false None Over w h e = absurd (true≢false (sym h))
one_holds_alone true false None (Num x) w h e = absurd h
one_holds_alone false true None Over w h e = cc
one_holds_alone false true None Undef w h e = absurd (true≢false (sym h))
one_holds_alone false true None (Num x) w h e = absurd h
one_holds_alone false false (Some r) (Num x) w h e = one_in r w x h e
one_holds_alone false false r Undef w h e = absurd (true≢false (sym h))
one_holds_alone false false r Over w h e = absurd (true≢false (sym h))
one_holds_alone false false None (Num x) w h e = absurd h
one_holds_alone true true None v w h e = absurd (none_some w e)
one_holds_alone true true (Some r) v w h e = absurd (none_some w e)
one_holds_alone true false (Some r) v w h e = absurd (none_some w e)
one_holds_alone false true (Some r) v w h e = absurd (none_some w e)

-- no other value is possible
pub one_value_is : (f : Possible) (v w : Value) → Holds f v → one_value f ≡ Some w → v ≡ w
one_value_is f v w h e = one_holds_alone f.undef f.over f.range v w h e

ends_in : (r : ℤ × ℤ) (w : Value) → one_number (Some r) ≡ Some w → Holds (record { undef = false; over = false; range = Some r }) w
ends_in r w e = go (int_eq r.0 r.1) refl e
  where
    go : (b : Bool) → int_eq r.0 r.1 ≡ b → (if b then Some (Num r.0) else None) ≡ Some w → Holds (record { undef = false; over = false; range = Some r }) w
    go true d e = subst (Holds (record { undef = false; over = false; range = Some r })) (some_same (Num r.0) w e) (least r.0 r.1 (int_eq_true r.0 r.1 d))
      where
        least : (l u : ℤ) → l ≡ u → (l ≤ℤ l) × (l ≤ℤ u)
        least l u e = (omega (arith, ints), omega (arith, ints))
    go false d e = absurd (none_some w e)

one_of_holds : (u o : Bool) (r : Option (ℤ × ℤ)) (w : Value) → one_of u o r ≡ Some w → Holds (record { undef = u; over = o; range = r }) w
one_of_holds true false None w e = subst (Holds (record { undef = true; over = false; range = None })) (some_same Undef w e) refl
one_of_holds false true None w e = subst (Holds (record { undef = false; over = true; range = None })) (some_same Over w e) refl
one_of_holds false false (Some r) w e = ends_in r w e
one_of_holds false false None w e = absurd (none_some w e)
one_of_holds true true None w e = absurd (none_some w e)
one_of_holds true true (Some r) w e = absurd (none_some w e)
one_of_holds true false (Some r) w e = absurd (none_some w e)
one_of_holds false true (Some r) w e = absurd (none_some w e)

-- and this one is possible
pub one_value_holds : (f : Possible) (w : Value) → one_value f ≡ Some w → Holds f w
one_value_holds f w e = one_of_holds f.undef f.over f.range w e

number_within : (r : Option (ℤ × ℤ)) (x : ℤ) → IsWithin r → InSome r x → IsAmount x
number_within (Some r) x h i = amount_between r.0 r.1 x h.low h.high i.0 i.1
  where
    amount_between : (l u x : ℤ) → IsAmount l → IsAmount u → l ≤ℤ x → x ≤ℤ u → IsAmount x
    amount_between l u x p q a b =
        let low = p.low in
        let high = q.high in
        record { low = omega (arith, ints); high = omega (arith, ints) }
number_within None x h i = absurd i

-- what is possible is a value
pub held_is_value : (f : Possible) (v : Value) → IsFact f → Holds f v → IsValue v
held_is_value f Undef h i = tt
held_is_value f Over h i = tt
held_is_value f (Num x) h i = number_within f.range x h.within i
