use Rattle.std.proofs.Common.{◌≡◌, ◌++◌, ◌+◌, ◌-◌, map}
use Rattle.std.specs.List.{range_with_len}
use Rattle.loop_values.specs.Values.{letter_word, from_to}
use Rattle.loop_values.proofs.values.push_letters.Given as goal

abbrev pub invariant-loop-letter : goal.invariant-loop-letter
invariant-loop-letter l = l.values.items ++ map letter_word (range_with_len l.letter (l.to + 1 - l.letter)) ≡ l.initial.values.items
    ++ map letter_word (from_to l.from l.to)
