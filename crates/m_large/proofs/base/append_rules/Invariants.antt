use Rattle.std.proofs.Common.{◌≡◌, ◌≤◌, ◌++◌}
use Rattle.m_large.specs.Large.{rules}
use Rattle.m_large.proofs.base.append_rules.Given as goal

abbrev pub invariant-loop-k : goal.invariant-loop-k
invariant-loop-k l = record {
  same : l.text.items ++ rules l.k ≡ l.initial.text.items ++ rules l.last;
  within : l.k ≤ l.last;
}

abbrev pub decreases-loop-k : goal.decreases-loop-k
decreases-loop-k l = l.k
