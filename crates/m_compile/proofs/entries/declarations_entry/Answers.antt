use Rattle.std.proofs.Common.{Some, ap}
use Rattle.m_compile.proofs.entries.declarations_entry.Goals as goal

pub returns-in-DeclaredTwice : goal.returns-in-DeclaredTwice
returns-in-DeclaredTwice c = rw c.in-DeclaredTwice.is (ap Some c.at_name.ensures)

pub returns-in-AliasTwice : goal.returns-in-AliasTwice
returns-in-AliasTwice c = rw c.in-AliasTwice.is (ap Some c.at_name-in-AliasTwice.ensures)
