use Rattle.std.proofs.Common.{◌≡◌}
use Rattle.dead_rules.specs.inner.Steps.{IsCarried}
use Rattle.dead_rules.proofs.fold.push_all.Given as goal

abbrev pub invariant-loop-i : goal.invariant-loop-i
invariant-loop-i l = record {
  carried : IsCarried l.nodes l.i l.builder.nodes l.numbers.items;
  inputs : l.builder.inputs ≡ l.inputs;
}
