use Rattle.std.proofs.Common.{arith, sym, ◌∙◌, ◌+◌, ◌-◌}
use Rattle.std.proofs.lemmas.List.FromFn.{length-map-range_with_len}
use Rattle.loop_values.specs.Values.{letter_word}
use Rattle.loop_values.proofs.values.letters_count.Goals as goal

pub returns : goal.returns
returns c = record {
  count = c.saturating_sub.ensures ∙ sym (length-map-range_with_len letter_word c.args.from (c.args.to + 1 - c.args.from));
  few = omega arith;
}
