use Rattle.std.proofs.Common.{◌≡◌, ◌++◌}
use Rattle.std.specs.Prelude.{replicate}
use Rattle.loop_values.proofs.values.push_zeros.Given as goal

abbrev pub invariant-loop : goal.invariant-loop
invariant-loop l = l.word.items ≡ l.initial.word.items ++ replicate l.counter 48
