use Rattle.std.proofs.Common.{◌≡◌, map, take}
use Rattle.dead_rules.specs.inner.Firsts.{check_node, AreFirsts}
use Rattle.dead_rules.proofs.firsts.firsts.Given as goal

abbrev pub invariant-loop-i : goal.invariant-loop-i
invariant-loop-i l = record {
  firsts : AreFirsts (take l.i l.checks) l.taken.items;
  same : l.table ≡ map check_node l.taken.items;
}
