use Rattle.std.proofs.Common.{◌≡◌, map}
use Rattle.m_cases.specs.Cases.{numbered}
use Rattle.m_cases.proofs.Numbered.{AreSmall}
use Rattle.m_cases.proofs.cases.apart.Given as goal

abbrev pub invariant-loop-case : goal.invariant-loop-case
invariant-loop-case l = record {
  rows : l.rows.items ≡ map (λ c. c.row) l.yielded;
  expected : l.expected.items ≡ map (numbered l.notes) (map (λ c. c.expected) l.yielded);
  small : AreSmall l.notes l.case-iterator.rest.items;
}
