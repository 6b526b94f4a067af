use Rattle.std.proofs.Common.{arith, sym, ◌∙◌, length, ◌+◌, ◌-◌}
use Rattle.std.proofs.lemmas.List.FromFn.{length-map-range_with_len}
use Rattle.std.specs.Str.Parse.{digits_value}
use Rattle.loop_values.proofs.Numbers.{nine_digits}
use Rattle.loop_values.specs.Values.{number_word}
use Rattle.loop_values.proofs.values.numbers_count.Goals as goal

pub returns : goal.returns
returns c = record {
  count =
      c.saturating_sub.ensures
      ∙ (λ k. (c.number.ensures.value k + 1) - c.number-2.ensures.value k)
      ∙ sym (length-map-range_with_len (number_word (length c.args.from.now)) (digits_value 10 c.args.from.now)
      (digits_value 10 c.args.to.now + 1 - digits_value 10 c.args.from.now));
  few = omega (arith, nine_digits (length c.args.to.now) c.number.result c.requires.high_short c.number.ensures.below);
}
