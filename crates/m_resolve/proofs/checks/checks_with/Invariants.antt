use Rattle.std.proofs.Common.{◌≡◌, [], drop, length}
use Rattle.m_resolve.specs.Bases.{resolved_conditions}
use Rattle.m_resolve.proofs.checks.checks_with.Given as goal

abbrev pub invariant-loop-one : goal.invariant-loop-one
invariant-loop-one l = record {
  stated : resolved_conditions l.symbols (l.checks.items, l.labels.items) (drop l.one-index l.all) ≡ resolved_conditions l.symbols ([], []) l.all;
  count : length l.labels.items ≡ l.one-index;
}
