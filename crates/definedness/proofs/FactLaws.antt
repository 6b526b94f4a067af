-- Facts hold of the values.
use Rattle.std.proofs.Common.{◌≡◌, ◌≢◌, Bool, true, false, not, ℤ, pos, ◌≤ℤ◌, ◌⊎◌, is_none, refl, ap, sym, ◌∙◌, subst, inl, inr, ⊎_elim, arith}
use mathlib.Core.Bool.{◌&&◌, ◌||◌}
use Rattle.std.proofs.lemmas.Bool.{true≢false, or_left, or_right}
use Rattle.std.proofs.lemmas.Int.{ints, clamps, by_lt_z}
use Rattle.std.specs.Ordering.{int_eq}
use Rattle.std.specs.Prelude.{int_lt, Option, Some, None, if◌then◌else◌}
use Rattle.m_fixed.specs.declared.amount.Value.{Value}
use Rattle.m_fixed.specs.declared.amount.Value.TheVariants.{Undef, Num, Over}
use Rattle.m_fixed.specs.declared.operator.Op.{Op}
use Rattle.m_fixed.specs.declared.operator.Op.TheVariants.{Neg, Not, Present, Abs, Positive, PositiveOrNull, Null, Arr, Inf, Truth, Choose}
use Rattle.m_fixed.specs.Amounts.{IsAmount, unit}
use Rattle.m_fixed.specs.Laws.{IsValue}
use Rattle.m_fixed.specs.Operators.{op_value, of_one, of_two, bounded, result_of, truth, truth_of, chosen, is_zero, counts_undefined_as_zero}
use Rattle.definedness.specs.Ranges.{InRange, InSome, IsWithin, alone, join, has_zero, has_other, may_be_zero, may_be_other, lowest_amount, highest_amount}
use Rattle.definedness.specs.Ranges.{cut_to_amounts, leaves_amounts}
use Rattle.definedness.specs.Results.{results_of}
use Rattle.definedness.specs.Facts.{Possible, Holds, IsFact, one_number, one_of, one_value, is_over_alone, over_alone, fact_of_value, fact_of_input}
use Rattle.definedness.specs.Facts.{bounded_fact, fact_of_ranges, presence, fact_of_one, widened, fact_of_two_widened, fact_of_two, truths_of, truth_fact}
use Rattle.definedness.specs.Facts.{either, if_taken, choice, fact_of}
use Rattle.definedness.specs.inner.Branches.{branches, under_condition}
use Rattle.definedness.proofs.Beyond.{bounded_amount, is_over_below, is_over_above}
use Rattle.definedness.proofs.Cuts.{below, not_below}
use Rattle.definedness.proofs.Holding.{results_hold, in_truths, in_alone, zero_in, other_in, not_true, not_false}

-- ---- intervals

in_left : (r s : Option (ℤ × ℤ)) (x : ℤ) → InSome r x → InSome (join r s) x
in_left (Some r) None x h = h
in_left (Some r) (Some s) x h =
    let l : r.0 ≤ℤ x = h.0 in
    let u : x ≤ℤ r.1 = h.1 in
    (omega (arith, ints, clamps), omega (arith, ints, clamps))
in_left None s x h = absurd h

in_right : (r s : Option (ℤ × ℤ)) (x : ℤ) → InSome s x → InSome (join r s) x
in_right None s x h = h
in_right (Some r) (Some s) x h =
    let l : s.0 ≤ℤ x = h.0 in
    let u : x ≤ℤ s.1 = h.1 in
    (omega (arith, ints, clamps), omega (arith, ints, clamps))
in_right (Some r) None x h = absurd h

in_cut : (r : ℤ × ℤ) (z : ℤ) → InRange r z → lowest_amount ≤ℤ z → z ≤ℤ highest_amount → InSome (cut_to_amounts r) z
in_cut r z h l u =
    let a : r.0 ≤ℤ z = h.0 in
    let b : z ≤ℤ r.1 = h.1 in
    rw (not_below r.1 lowest_amount (omega (arith, ints)), not_below highest_amount r.0 (omega (arith, ints)))
    (omega (arith, ints, clamps), omega (arith, ints, clamps))

amount_of_size : (z : ℤ) → lowest_amount ≤ℤ z → z ≤ℤ highest_amount → IsAmount z
amount_of_size z l u = record { low = l; high = u }

-- a number of an interval, once it is bounded
bounded_holds : (u o : Bool) (r : ℤ × ℤ) (z : ℤ) → InRange r z → Holds (bounded_fact u o r) (bounded z)
bounded_holds u o r z h =
    let l : r.0 ≤ℤ z = h.0 in
    let g : z ≤ℤ r.1 = h.1 in
    by_lt_z z lowest_amount
    (λ lt. rw (is_over_below z lt) (or_right o (leaves_amounts r)
    (or_left (int_lt r.0 lowest_amount) (int_lt highest_amount r.1) (below r.0 lowest_amount (omega (arith, ints))))))
    (λ ge. by_lt_z highest_amount z
    (λ gt. rw (is_over_above z gt) (or_right o (leaves_amounts r)
    (or_right (int_lt r.0 lowest_amount) (int_lt highest_amount r.1) (below highest_amount r.1 (omega (arith, ints))))))
    (λ le. rw (bounded_amount z (amount_of_size z ge le)) (in_cut r z h ge le)))

-- ---- an operator on intervals

undef_of_ranges : (op : Op) (u o : Bool) (r s : Option (ℤ × ℤ)) → u ≡ true → (fact_of_ranges op u o r s).undef ≡ true
undef_of_ranges op u o (Some r) (Some s) h = h
undef_of_ranges op u o None s h = h
undef_of_ranges op u o (Some r) None h = h

over_of_ranges : (op : Op) (u o : Bool) (r s : Option (ℤ × ℤ)) → o ≡ true → (fact_of_ranges op u o r s).over ≡ true
over_of_ranges op u o (Some r) (Some s) h = or_left o (leaves_amounts (results_of op r s)) h
over_of_ranges op u o None s h = h
over_of_ranges op u o (Some r) None h = h

number_of_ranges : (op : Op) (u o : Bool) (r s : Option (ℤ × ℤ)) (x y : ℤ) → InSome r x → InSome s y
    → Holds (fact_of_ranges op u o r s) (bounded (result_of op x y))
number_of_ranges op u o (Some r) (Some s) x y h i = bounded_holds u o (results_of op r s) (result_of op x y) (results_hold op r s x y h i)
number_of_ranges op u o None s x y h i = absurd h
number_of_ranges op u o (Some r) None x y h i = absurd i

-- ---- arguments that can only be Over

alone_over : (f : Possible) (v : Value) → is_over_alone f ≡ true → Holds f v → v ≡ Over
alone_over f Undef e h = absurd (true≢false (sym e ∙ ap (λ b. not b && is_none f.range) h))
alone_over f Over e h = refl
alone_over f (Num x) e h = absurd (none f.undef f.range e h)
  where
    none : (u : Bool) (r : Option (ℤ × ℤ)) → (not u && is_none r) ≡ true → InSome r x → ⊥
    none u None e h = h
    none true (Some r) e h = true≢false (sym e)
    none false (Some r) e h = true≢false (sym e)

one_strict : (f k : Possible) (a v : Value) → Holds f a → (a ≡ Over → v ≡ Over) → Holds k v → Holds (if is_over_alone f then over_alone else k) v
one_strict f k a v hf p h = go (is_over_alone f) refl
  where
    go : (b : Bool) → is_over_alone f ≡ b → Holds (if b then over_alone else k) v
    go true e = subst (Holds over_alone) (sym (p (alone_over f a e hf))) refl
    go false e = h

two_strict : (f g k : Possible) (a b v : Value) → Holds f a → Holds g b → (a ≡ Over → v ≡ Over) → (b ≡ Over → v ≡ Over) → Holds k v
    → Holds (if is_over_alone f || is_over_alone g then over_alone else k) v
two_strict f g k a b v hf hg p q h = go (is_over_alone f) (is_over_alone g) refl refl
  where
    go : (x y : Bool) → is_over_alone f ≡ x → is_over_alone g ≡ y → Holds (if x || y then over_alone else k) v
    go true y e d = subst (Holds over_alone) (sym (p (alone_over f a e hf))) refl
    go false true e d = subst (Holds over_alone) (sym (q (alone_over g b d hg))) refl
    go false false e d = h

-- ---- one argument

-- an operator of one argument that preserves undefined and Over
one_holds : (op : Op) (f : Possible) (a : Value) → of_one op Over ≡ Over → of_one op Undef ≡ Undef
    → ((x : ℤ) → of_one op (Num x) ≡ bounded (result_of op x (pos 0))) → Holds f a
    → Holds (if is_over_alone f then over_alone else fact_of_ranges op f.undef f.over f.range (Some (alone (pos 0)))) (of_one op a)
one_holds op f a over undef number h = one_strict f (fact_of_ranges op f.undef f.over f.range (Some (alone (pos 0)))) a (of_one op a) h (λ e. ap (of_one op) e
    ∙ over) (go a h)
  where
    go : (a : Value) → Holds f a → Holds (fact_of_ranges op f.undef f.over f.range (Some (alone (pos 0)))) (of_one op a)
    go Over h = subst (Holds (fact_of_ranges op f.undef f.over f.range (Some (alone (pos 0))))) (sym over)
        (over_of_ranges op f.undef f.over f.range (Some (alone (pos 0))) h)
    go Undef h = subst (Holds (fact_of_ranges op f.undef f.over f.range (Some (alone (pos 0))))) (sym undef)
        (undef_of_ranges op f.undef f.over f.range (Some (alone (pos 0))) h)
    go (Num x) h = subst (Holds (fact_of_ranges op f.undef f.over f.range (Some (alone (pos 0))))) (sym (number x))
        (number_of_ranges op f.undef f.over f.range (Some (alone (pos 0))) x (pos 0) h (in_alone (pos 0)))

absent_holds : (u : Bool) (r : Option (ℤ × ℤ)) → u ≡ true → InRange (presence u r) (pos 0)
absent_holds u None h = in_alone (pos 0)
absent_holds u (Some r) h = in_truths true u false (λ e. refl) (λ e. h)

present_holds : (u : Bool) (r : Option (ℤ × ℤ)) (x : ℤ) → InSome r x → InRange (presence u r) (pos unit)
present_holds u None x h = absurd h
present_holds u (Some r) x h = in_truths true u true (λ e. refl) (λ e. absurd (true≢false e))

presence_holds : (f : Possible) (a : Value) → Holds f a → Holds (if is_over_alone f then over_alone else fact_of_one Present f) (of_one Present a)
presence_holds f a h = one_strict f (fact_of_one Present f) a (of_one Present a) h (λ e. ap (of_one Present) e) (go a h)
  where
    go : (a : Value) → Holds f a → Holds (fact_of_one Present f) (of_one Present a)
    go Over h = h
    go Undef h = absent_holds f.undef f.range h
    go (Num x) h = present_holds f.undef f.range x h

-- ---- two arguments

over_second : (op : Op) (a : Value) → of_two op a Over ≡ Over
over_second op Undef = refl
over_second op (Num x) = refl
over_second op Over = refl

-- where undefined makes the result undefined
strict_holds : (op : Op) (f g : Possible) (a b : Value) → counts_undefined_as_zero op ≡ false → Holds f a → Holds g b
    → Holds (fact_of_ranges op (f.undef || g.undef) (f.over || g.over) f.range g.range) (of_two op a b)
strict_holds op f g Over b e h i = over_of_ranges op (f.undef || g.undef) (f.over || g.over) f.range g.range (or_left f.over g.over h)
strict_holds op f g Undef Over e h i = over_of_ranges op (f.undef || g.undef) (f.over || g.over) f.range g.range (or_right f.over g.over i)
strict_holds op f g (Num x) Over e h i = over_of_ranges op (f.undef || g.undef) (f.over || g.over) f.range g.range (or_right f.over g.over i)
strict_holds op f g Undef Undef e h i = undef_of_ranges op (f.undef || g.undef) (f.over || g.over) f.range g.range (or_left f.undef g.undef h)
strict_holds op f g Undef (Num y) e h i = rw e (undef_of_ranges op (f.undef || g.undef) (f.over || g.over) f.range g.range (or_left f.undef g.undef h))
strict_holds op f g (Num x) Undef e h i = rw e (undef_of_ranges op (f.undef || g.undef) (f.over || g.over) f.range g.range (or_right f.undef g.undef i))
strict_holds op f g (Num x) (Num y) e h i = number_of_ranges op (f.undef || g.undef) (f.over || g.over) f.range g.range x y h i

in_widened : (f : Possible) (x : ℤ) → InSome f.range x → InSome (widened f) x
in_widened f x h = go f.undef
  where
    go : (u : Bool) → InSome (if u then join (Some (alone (pos 0))) f.range else f.range) x
    go true = in_right (Some (alone (pos 0))) f.range x h
    go false = h

zero_widened : (f : Possible) → f.undef ≡ true → InSome (widened f) (pos 0)
zero_widened f e = rw e (in_left (Some (alone (pos 0))) f.range (pos 0) (in_alone (pos 0)))

abbrev wide : Op → Possible → Possible → Possible
wide op f g = fact_of_ranges op (f.undef && g.undef) (f.over || g.over) (widened f) (widened g)

abbrev no_number : Possible → Possible → Possible
no_number f g = record { undef = f.undef && g.undef; over = f.over || g.over; range = None }

over_widened : (op : Op) (f g : Possible) → (f.over || g.over) ≡ true → Holds (fact_of_two_widened op f g) Over
over_widened op f g h = go (is_none f.range && is_none g.range)
  where
    go : (b : Bool) → Holds (if b then no_number f g else wide op f g) Over
    go true = h
    go false = over_of_ranges op (f.undef && g.undef) (f.over || g.over) (widened f) (widened g) h

undef_widened : (op : Op) (f g : Possible) → (f.undef && g.undef) ≡ true → Holds (fact_of_two_widened op f g) Undef
undef_widened op f g h = go (is_none f.range && is_none g.range)
  where
    go : (b : Bool) → Holds (if b then no_number f g else wide op f g) Undef
    go true = h
    go false = undef_of_ranges op (f.undef && g.undef) (f.over || g.over) (widened f) (widened g) h

number_widened : (op : Op) (f g : Possible) (x y : ℤ) → (InSome f.range x ⊎ InSome g.range y) → InSome (widened f) x → InSome (widened g) y
    → Holds (fact_of_two_widened op f g) (bounded (result_of op x y))
number_widened op f g x y some h i = go f.range g.range some
  where
    there : Holds (wide op f g) (bounded (result_of op x y))
    there = number_of_ranges op (f.undef && g.undef) (f.over || g.over) (widened f) (widened g) x y h i

    go : (r s : Option (ℤ × ℤ)) → (InSome r x ⊎ InSome s y) → Holds (if is_none r && is_none s then no_number f g else wide op f g) (bounded (result_of op x y))
    go None None some = ⊎_elim (λ h. absurd h) (λ h. absurd h) some
    go None (Some s) some = there
    go (Some r) s some = there

-- where undefined counts as 0 if the other is a number
widened_holds : (op : Op) (f g : Possible) (a b : Value) → counts_undefined_as_zero op ≡ true → Holds f a → Holds g b
    → Holds (fact_of_two_widened op f g) (of_two op a b)
widened_holds op f g Over b e h i = over_widened op f g (or_left f.over g.over h)
widened_holds op f g Undef Over e h i = over_widened op f g (or_right f.over g.over i)
widened_holds op f g (Num x) Over e h i = over_widened op f g (or_right f.over g.over i)
widened_holds op f g Undef Undef e h i = undef_widened op f g (rw (h, i) refl)
widened_holds op f g Undef (Num y) e h i = rw e (number_widened op f g (pos 0) y (inr i) (zero_widened f h) (in_widened g y i))
widened_holds op f g (Num x) Undef e h i = rw e (number_widened op f g x (pos 0) (inl h) (in_widened f x h) (zero_widened g i))
widened_holds op f g (Num x) (Num y) e h i = number_widened op f g x y (inl h) (in_widened f x h) (in_widened g y i)

two_holds : (op : Op) (f g : Possible) (a b : Value) → Holds f a → Holds g b
    → Holds (if is_over_alone f || is_over_alone g then over_alone else fact_of_two op f g) (of_two op a b)
two_holds op f g a b h i = two_strict f g (fact_of_two op f g) a b (of_two op a b) h i (λ e. ap (λ v. of_two op v b) e) (λ e. ap (of_two op a) e
    ∙ over_second op a) (go (counts_undefined_as_zero op) refl)
  where
    go : (z : Bool) → counts_undefined_as_zero op ≡ z → Holds (fact_of_two op f g) (of_two op a b)
    go true e = subst (λ z. Holds (if z then fact_of_two_widened op f g else fact_of_ranges op (f.undef || g.undef) (f.over || g.over) f.range g.range)
        (of_two op a b)) (sym e) (widened_holds op f g a b e h i)
    go false e = subst (λ z. Holds (if z then fact_of_two_widened op f g else fact_of_ranges op (f.undef || g.undef) (f.over || g.over) f.range g.range)
        (of_two op a b)) (sym e) (strict_holds op f g a b e h i)

-- ---- the two operators that select

other_truth : (o : Bool) (r : Option (ℤ × ℤ)) → o ≡ true → InRange (truths_of o r) (pos 0)
other_truth o None h = in_alone (pos 0)
other_truth o (Some r) h = in_truths (has_other r) (o || has_zero r) false (λ e. absurd (true≢false (sym e))) (λ e. or_left o (has_zero r) h)

number_truth : (o : Bool) (r : Option (ℤ × ℤ)) (x : ℤ) → InSome r x → InRange (truths_of o r) (truth (not (is_zero x)))
number_truth o None x h = absurd h
number_truth o (Some r) x h = in_truths (has_other r) (o || has_zero r) (not (is_zero x)) (λ e. other_in r x h (not_true (is_zero x) e))
    (λ e. or_right o (has_zero r) (zero_in r x h (not_false (is_zero x) e)))

truth_holds : (f : Possible) (a : Value) → Holds f a → Holds (truth_fact f) (truth_of a)
truth_holds f Undef h = other_truth (f.undef || f.over) f.range (or_left f.undef f.over h)
truth_holds f Over h = other_truth (f.undef || f.over) f.range (or_right f.undef f.over h)
truth_holds f (Num x) h = number_truth (f.undef || f.over) f.range x h

either_left : (f g : Possible) (v : Value) → Holds f v → Holds (either f g) v
either_left f g Undef h = or_left f.undef g.undef h
either_left f g Over h = or_left f.over g.over h
either_left f g (Num x) h = in_left f.range g.range x h

either_right : (f g : Possible) (v : Value) → Holds g v → Holds (either f g) v
either_right f g Undef h = or_right f.undef g.undef h
either_right f g Over h = or_right f.over g.over h
either_right f g (Num x) h = in_right f.range g.range x h

taken : (p : Bool) (f : Possible) (v : Value) → p ≡ true → Holds f v → Holds (if_taken p f) v
taken true f v e h = h
taken false f v e h = absurd (true≢false (sym e))

is_other : (r : Option (ℤ × ℤ)) (x : ℤ) → InSome r x → is_zero x ≡ false → may_be_other r ≡ true
is_other (Some r) x h e = other_in r x h e
is_other None x h e = absurd h

is_none_other : (r : Option (ℤ × ℤ)) (x : ℤ) → InSome r x → is_zero x ≡ true → may_be_zero r ≡ true
is_none_other (Some r) x h e = zero_in r x h e
is_none_other None x h e = absurd h

choice_holds : (c f g : Possible) (v a b : Value) → Holds c v → Holds f a → Holds g b → Holds (choice c f g) (chosen v a b)
choice_holds c f g Undef a b h i j = or_left c.undef (either (if_taken (may_be_other c.range) f) (if_taken (may_be_zero c.range) g)).undef h
choice_holds c f g Over a b h i j = or_left c.over (either (if_taken (may_be_other c.range) f) (if_taken (may_be_zero c.range) g)).over h
choice_holds c f g (Num x) a b h i j = go (is_zero x) refl
  where
    go : (z : Bool) → is_zero x ≡ z → Holds (choice c f g) (if z then b else a)
    go true e =
        let first = if_taken (may_be_other c.range) f in
        let second = if_taken (may_be_zero c.range) g in
        either_right (record c { range = None }) (either first second) b
        (either_right first second b (taken (may_be_zero c.range) g b (is_none_other c.range x h e) j))
    go false e =
        let first = if_taken (may_be_other c.range) f in
        let second = if_taken (may_be_zero c.range) g in
        either_right (record c { range = None }) (either first second) a
        (either_left first second a (taken (may_be_other c.range) f a (is_other c.range x h e) i))

-- the choice as it is computed
or_nothing : (b : Bool) → (b || false) ≡ b
or_nothing true = refl
or_nothing false = refl

join_none : (r : Option (ℤ × ℤ)) → join r None ≡ r
join_none None = refl
join_none (Some r) = refl

choice_by : (p q : Bool) (c a b : Possible)
    → either (record c { range = None }) (either (if_taken p a) (if_taken q b)) ≡ under_condition c (branches p q a b)
choice_by true true c a b = refl
choice_by true false c a b = λ i. record { undef = c.undef || or_nothing a.undef i; over = c.over || or_nothing a.over i; range = join_none a.range i }
choice_by false true c a b = refl
choice_by false false c a b = λ i. record { undef = or_nothing c.undef i; over = or_nothing c.over i; range = None }

pub choice_is : (c a b : Possible) → choice c a b ≡ under_condition c (branches (may_be_other c.range) (may_be_zero c.range) a b)
choice_is c a b = choice_by (may_be_other c.range) (may_be_zero c.range) c a b

-- ---- all operators

pub operator_fact_holds : (op : Op) (f g k : Possible) (a b c : Value) → Holds f a → Holds g b → Holds k c → Holds (fact_of op f g k) (op_value op a b c)
unfolding fact_of op_value
operator_fact_holds Choose f g k a b c h i j = choice_holds f g k a b c h i j
operator_fact_holds Truth f g k a b c h i j = truth_holds f a h
operator_fact_holds Present f g k a b c h i j = presence_holds f a h
operator_fact_holds Neg f g k a b c h i j = one_holds Neg f a refl refl (λ x. refl) h
operator_fact_holds Not f g k a b c h i j = one_holds Not f a refl refl (λ x. refl) h
operator_fact_holds Abs f g k a b c h i j = one_holds Abs f a refl refl (λ x. refl) h
operator_fact_holds Positive f g k a b c h i j = one_holds Positive f a refl refl (λ x. refl) h
operator_fact_holds PositiveOrNull f g k a b c h i j = one_holds PositiveOrNull f a refl refl (λ x. refl) h
operator_fact_holds Null f g k a b c h i j = one_holds Null f a refl refl (λ x. refl) h
operator_fact_holds Arr f g k a b c h i j = one_holds Arr f a refl refl (λ x. refl) h
operator_fact_holds Inf f g k a b c h i j = one_holds Inf f a refl refl (λ x. refl) h
operator_fact_holds op f g k a b c h i j = two_holds op f g a b h i

-- ---- literals and inputs

pub value_fact_holds : (v : Value) → Holds (fact_of_value v) v
value_fact_holds Undef = refl
value_fact_holds Over = refl
value_fact_holds (Num x) = in_alone x
