-- The fact of each input has a possible value, and its bounds are amounts in order.
use Rattle.std.proofs.Common.{◌≡◌, ◌≤ℤ◌, ℕ, ℤ, ◌+◌, neg_ℤ, pos, List, [], ◌∷◌, length, Option, Some, None, Result, Ok, Err, Bool, true, false, cond, eqb, refl}
use Rattle.std.proofs.Common.{sym, subst, ap, arith}
use Rattle.std.specs.Prelude.{int_le, is_some, IsTrue, ◌||◌}
use Rattle.std.specs.List.{AllByRecursion, AllZip}
use Rattle.std.proofs.lemmas.Int.{ints}
use Rattle.m_fixed.specs.Amounts.{IsAmount, most, unit}
use Rattle.m_fixed.specs.Text.{amount_read, text_value}
use Rattle.m_fixed.specs.declared.read.AmountFault.{AmountFault}
use Rattle.observables.specs.declared.inputs.Coded.{Coded}
use Rattle.observables.specs.declared.inputs.InputType.{InputType}
use Rattle.observables.specs.declared.inputs.InputType.TheVariants.{Any, Whole, Truth}
use Rattle.observables.proofs.InputLemmas.{read_amount}
use Rattle.definedness.specs.Facts.{IsFact, Possible}
use Rattle.definedness.specs.Ranges.{IsInterval, highest_amount, lowest_amount}
use Rattle.household.specs.Household.{input_type}
use Rattle.input_ranges.specs.Ranges.{amounts_of, are_empty, parsed_bounds, parsed_fact, fact_within, facts_from, facts_within, from_read, given_of, in_order}
use Rattle.input_ranges.specs.Ranges.{nothing, parsed_possible, ranges_of, type_fact, type_range, under_word}
use Rattle.input_ranges.specs.RangeFiles.{AreRanges, IsRangeRow}
use Rattle.input_ranges.specs.declared.given.Given.{Given}
use Rattle.input_ranges.specs.declared.given.Given.TheVariants.{Yes, No, Maybe}
use Rattle.input_ranges.specs.declared.ranges.InputRange.{InputRange}
use Rattle.input_ranges.proofs.RangeLemmas.{length_within}
use Rattle.input_ranges.proofs.RowLemmas.{read_ranges_are}

amounts_fact : (undef : Bool) (r : ℤ × ℤ) → IsInterval r → IsFact (amounts_of undef r)
amounts_fact true r h = record { some = refl; within = h }
amounts_fact false r h = record { some = refl; within = h }

type_interval : (kind : InputType) → IsInterval (type_range kind)
type_interval Any = record {
  low = record { low = omega (arith, ints); high = omega (arith, ints) };
  ordered = omega (arith, ints);
  high = record { low = omega (arith, ints); high = omega (arith, ints) };
}
type_interval Whole = record {
  low = record { low = omega (arith, ints); high = omega (arith, ints) };
  ordered = omega (arith, ints);
  high = record { low = omega (arith, ints); high = omega (arith, ints) };
}
type_interval Truth = record {
  low = record { low = omega (arith, ints); high = omega (arith, ints) };
  ordered = omega (arith, ints);
  high = record { low = omega (arith, ints); high = omega (arith, ints) };
}

type_is_fact : (undef : Bool) (kind : InputType) → IsFact (amounts_of undef (type_range kind))
type_is_fact undef kind = amounts_fact undef (type_range kind) (type_interval kind)

-- ---- bounds

order_of : (x y : ℤ) → int_le x y ≡ true → x ≤ℤ y
order_of x y e = omega (arith, ints)

in_order_fact : (undef : Bool) (r : ℤ × ℤ) (p : Possible) → IsAmount r.0 → IsAmount r.1 → in_order undef r ≡ Some p → IsFact p
in_order_fact undef r p low high h = by (int_le r.0 r.1) refl h
  where
    by : (b : Bool) → int_le r.0 r.1 ≡ b → cond b (Some (amounts_of undef r)) None ≡ Some p → IsFact p
    by true e g =
        let same : amounts_of undef r ≡ p = cc g in
        subst IsFact same (amounts_fact undef r (record { low = low; ordered = order_of r.0 r.1 e; high = high }))
    by false e g = cc g

read_fact : (undef : Bool) (one other : Option ℤ) (p : Possible) → from_read undef (amount_read one) (amount_read other) ≡ Some p → IsFact p
read_fact undef one other p h = by (amount_read one) (amount_read other) refl refl h
  where
    by : (a b : Result ℤ AmountFault) → amount_read one ≡ a → amount_read other ≡ b → from_read undef a b ≡ Some p → IsFact p
    by (Ok x) (Ok y) d e g = in_order_fact undef (x, y) p (read_amount one x d) (read_amount other y e) g
    by (Ok x) (Err why) d e g = cc g
    by (Err why) b d e g = cc g

bounds_fact : (undef : Bool) (kind : InputType) (least greatest : List ℕ) (p : Possible) → parsed_bounds undef kind least greatest ≡ Some p → IsFact p
bounds_fact undef kind least greatest p h = by (are_empty least greatest) h
  where
    by : (b : Bool) → cond b (Some (amounts_of undef (type_range kind))) (from_read undef (amount_read (text_value least)) (amount_read (text_value greatest)))
        ≡ Some p → IsFact p
    by true g = let same : amounts_of undef (type_range kind) ≡ p = cc g in subst IsFact same (type_is_fact undef kind)
    by false g = read_fact undef (text_value least) (text_value greatest) p g

possible_fact : (kind : InputType) (given : Given) (least greatest : List ℕ) (p : Possible) → parsed_possible kind given least greatest ≡ Some p → IsFact p
possible_fact kind Yes least greatest p h = bounds_fact false kind least greatest p h
possible_fact kind Maybe least greatest p h = bounds_fact true kind least greatest p h
possible_fact kind No least greatest p h = by (are_empty least greatest) h
  where
    by : (b : Bool) → cond b (Some nothing) None ≡ Some p → IsFact p
    by true g = let same : nothing ≡ p = cc g in subst IsFact same (record { some = refl; within = tt })
    by false g = cc g

stated_fact : (kind : InputType) (word least greatest : List ℕ) (p : Possible) → parsed_fact kind word least greatest ≡ Some p → IsFact p
stated_fact kind word least greatest p h = by (given_of word) h
  where
    by : (o : Option Given) → under_word kind o least greatest ≡ Some p → IsFact p
    by None g = cc g
    by (Some given) g = possible_fact kind given least greatest p g

-- ---- inputs

rows_facts : (inputs : List Coded) (rows : List (List (List ℕ))) (ranges : List InputRange) → AllZip (IsRangeRow inputs) rows ranges
    → AllByRecursion (λ range. IsFact range.fact) ranges
rows_facts inputs [] [] z = tt
rows_facts inputs [] (range ∷ ranges) z = absurd z
rows_facts inputs (fields ∷ rows) [] z = absurd z
rows_facts inputs (fields ∷ rows) (range ∷ ranges) z =
    let row = z.0 in
    (stated_fact (input_type inputs range.input) row.word row.least row.greatest range.fact row.says, rows_facts inputs rows ranges z.1)

within_fact : (ranges : List InputRange) (number : ℕ) (kind : InputType) → AllByRecursion (λ range. IsFact range.fact) ranges
    → IsFact (fact_within ranges number kind)
within_fact [] number kind h = type_is_fact true kind
within_fact (range ∷ ranges) number kind h = by (eqb range.input number) (within_fact ranges number kind h.1)
  where
    by : (b : Bool) → IsFact (fact_within ranges number kind) → IsFact (cond b range.fact (fact_within ranges number kind))
    by true rest = h.0
    by false rest = rest

from_facts : (ranges : List InputRange) (number : ℕ) (inputs : List Coded) → AllByRecursion (λ range. IsFact range.fact) ranges
    → AllByRecursion IsFact (facts_from ranges number inputs)
from_facts ranges number [] h = tt
from_facts ranges number (input ∷ inputs) h = (within_fact ranges number input.kind h, from_facts ranges (number + 1) inputs h)

pub given_are_facts : (inputs : List Coded) (bytes : List ℕ) (given : List Possible) → ranges_of inputs bytes ≡ Ok given → AllByRecursion IsFact given
given_are_facts inputs bytes given h =
    let are = read_ranges_are inputs bytes given h in
    subst (AllByRecursion IsFact) (sym are.each) (from_facts are.ranges 0 inputs (rows_facts inputs are.rows are.ranges are.in_rows))

pub given_are_all : (inputs : List Coded) (bytes : List ℕ) (given : List Possible) → ranges_of inputs bytes ≡ Ok given → length given ≡ length inputs
given_are_all inputs bytes given h =
    let are = read_ranges_are inputs bytes given h in
    subst (λ (g : List Possible). length g ≡ length inputs) (sym are.each) (length_within are.ranges inputs)
