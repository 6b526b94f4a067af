use Rattle.std.proofs.Common.{◌≡◌}
use Rattle.std.specs.Prelude.{None, replicate}
use Rattle.loop_values.proofs.letters.no_letters.Given as goal

abbrev pub invariant-loop : goal.invariant-loop
invariant-loop l = l.letters.items ≡ replicate l.counter None
