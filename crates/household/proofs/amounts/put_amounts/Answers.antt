use Rattle.std.proofs.Common.{◌≡◌, ◌<◌, ℕ, ℤ, List, length, sym, ap, subst, ◌∙◌, arith, refl}
use Rattle.std.specs.List.{AllByRecursion}
use Rattle.std.proofs.lemmas.List.{length-set, drop_all}
use Rattle.household.specs.Household.{inputs_of, values_of}
use Rattle.household.proofs.ValueLemmas.{values_of-next}
use Rattle.household.proofs.amounts.put_amounts.Goals as goal

in_range : (n : ℕ) {pairs own : List (ℕ × ℤ)} → pairs ≡ own → AllByRecursion (λ input. input < n) (inputs_of own)
    → AllByRecursion (λ input. input < n) (inputs_of pairs)
in_range n e h = subst (λ (pairs : List (ℕ × ℤ)). AllByRecursion (λ input. input < n) (inputs_of pairs)) (sym e) h

pub loop-left-init : goal.loop-left-init
loop-left-init c =
    record {
      within = omega arith;
      counted = refl;
      filled = c.requires.empty ∙ ap (λ ps. values_of ps (length c.args.values.now))
          (sym (drop_all (length c.as_slice-pairs.result.now) c.as_slice-pairs.result.now (omega arith)));
    }

pub bounds-values-input : goal.bounds-values-input
bounds-values-input c =
    let n = length c.args.values.now in
    let next = values_of-next c.as_slice-pairs.result.now c.loop-left.values c.loop-left.left c.index-pairs-left.result n
    (in_range n c.as_slice-pairs.ensures c.requires.inputs) (omega arith) (omega arith) c.index-pairs-left.is c.loop-left.invariant.filled in
    omega (arith, next.0, c.input.ensures, c.loop-left.invariant.counted)

pub loop-left-preserved : goal.loop-left-preserved
loop-left-preserved c =
    let n = length c.args.values.now in
    let next = values_of-next c.as_slice-pairs.result.now c.loop-left.values c.loop-left.left c.index-pairs-left.result n
    (in_range n c.as_slice-pairs.ensures c.requires.inputs) (omega arith) (omega arith) c.index-pairs-left.is c.loop-left.invariant.filled in
    record {
      within = omega arith;
      counted = length-set c.loop-left.values _ _ ∙ c.loop-left.invariant.counted;
      filled = rw (c.input.ensures, c.amount.ensures) next.1;
    }
