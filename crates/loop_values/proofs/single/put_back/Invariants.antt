use Rattle.std.proofs.Common.{◌≡◌, ◌≤◌, length, take}
use Rattle.loop_values.specs.inner.Singles.{unbound}
use Rattle.loop_values.proofs.single.put_back.Given as goal

abbrev pub invariant-loop-left : goal.invariant-loop-left
invariant-loop-left l = record {
  within : l.left ≤ length l.indexes;
  wide : length l.letters ≡ 256;
  as_many : length l.outer.items ≡ l.left;
  same : unbound (take l.left l.indexes) l.outer.items l.letters ≡ unbound l.indexes l.initial.outer.items l.initial.letters;
}

abbrev pub decreases-loop-left : goal.decreases-loop-left
decreases-loop-left l = l.left
