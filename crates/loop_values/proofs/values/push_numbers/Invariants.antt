use Rattle.std.proofs.Common.{◌≡◌, ◌++◌, ◌-◌, length, map}
use Rattle.std.specs.List.{range_with_len}
use Rattle.loop_values.specs.Values.{number_word, numbers_between}
use Rattle.loop_values.proofs.values.push_numbers.Given as goal

abbrev pub invariant-loop-n : goal.invariant-loop-n
invariant-loop-n l = l.values.items ++ map (number_word (length l.from)) (range_with_len l.n (l.behind - l.n)) ≡ l.initial.values.items
    ++ numbers_between l.from l.to
