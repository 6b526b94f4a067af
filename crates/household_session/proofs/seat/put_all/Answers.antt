use Rattle.std.proofs.Common.{◌≡◌, ◌-◌, ◌<◌, ℕ, ℤ, true, List, set, drop, refl, sym, ap, subst, ◌∙◌, arith}
use Rattle.std.specs.List.{AllByRecursion}
use Rattle.m_fixed.specs.declared.amount.Value.TheVariants.{Num}
use Rattle.household.specs.Household.{inputs_of, values_of}
use Rattle.household.proofs.ValueLemmas.{values_of-next}
use Rattle.value_sheet.specs.Held.{Held}
use Rattle.household_session.specs.Seats.{noted_pairs}
use Rattle.household_session.proofs.SeatLemmas.{noted_next}
use Rattle.household_session.proofs.seat.put_all.Goals as goal

in_range : (n : ℕ) {pairs own : List (ℕ × ℤ)} → pairs ≡ own → AllByRecursion (λ input. input < n) (inputs_of own)
    → AllByRecursion (λ input. input < n) (inputs_of pairs)
in_range n e h = subst (λ (pairs : List (ℕ × ℤ)). AllByRecursion (λ input. input < n) (inputs_of pairs)) (sym e) h

pub put-requires : goal.put-requires
put-requires c =
    let n = c.args.sheet.now.flat.inputs in
    let pairs = c.as_slice-pairs.result.now in
    let next = values_of-next pairs (values_of (drop c.loop-left.left pairs) n) c.loop-left.left c.index-pairs-left.result n
    (in_range n c.as_slice-pairs.ensures c.requires.inputs) (omega arith) c.loop-left.invariant.within c.index-pairs-left.is refl in
    omega (arith, next.0, c.input.ensures, ap (λ (held : Held). held.flat.inputs) c.loop-left.invariant.sheet)

pub loop-left-preserved : goal.loop-left-preserved
loop-left-preserved c =
    let first = c.args.sheet.now in
    let n = c.args.sheet.now.flat.inputs in
    let pairs = c.as_slice-pairs.result.now in
    let left = c.loop-left.left in
    let pair = c.index-pairs-left.result in
    let next = values_of-next pairs (values_of (drop left pairs) n) left pair n
    (in_range n c.as_slice-pairs.ensures c.requires.inputs) (omega arith) c.loop-left.invariant.within c.index-pairs-left.is refl in
    record {
      within = omega (arith, c.loop-left.invariant.within);
      sheet =
          rw (c.input.ensures, c.amount.ensures) at c.put.ensures
          ∙ ap (λ (held : Held). record held { now = set held.now pair.0 (Num pair.1); put = set held.put pair.0 true }) c.loop-left.invariant.sheet
          ∙ ap (λ now. record first { now = now; put = set (noted_pairs (drop left pairs) first.put) pair.0 true }) next.1
          ∙ ap (λ put. record first { now = values_of (drop (left - 1) pairs) n; put = put })
          (noted_next pairs first.put left pair (omega arith) c.loop-left.invariant.within c.index-pairs-left.is);
    }
