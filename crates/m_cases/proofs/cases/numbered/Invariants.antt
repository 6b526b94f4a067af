use Rattle.std.proofs.Common.{◌≡◌, ◌++◌, drop, take, length}
use Rattle.m_cases.specs.Cases.{numbered}
use Rattle.m_cases.proofs.cases.numbered.Given as goal

abbrev pub invariant-loop-i : goal.invariant-loop-i
invariant-loop-i l = record {
  done : l.all.items ≡ numbered l.notes (take l.i l.fn.expected) ++ drop l.i l.fn.expected;
  size : length l.all.items ≡ length l.fn.expected;
}
