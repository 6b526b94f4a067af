use Rattle.std.proofs.Common.{◌≡◌, ◌++◌}
use Rattle.m_large.specs.Large.{rows}
use Rattle.m_large.proofs.household.append_rows.Given as goal

abbrev pub invariant-loop-k : goal.invariant-loop-k
invariant-loop-k l = l.text.items ≡ l.initial.text.items ++ rows l.k
