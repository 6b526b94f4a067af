use Rattle.m_cases.proofs.CaseLaws.{cases_are_read, read_cases_are}
use Rattle.m_cases.proofs.laws.one_table_of_cases.Goals as goal

pub returns-clause-sound : goal.returns-clause-sound
returns-clause-sound c = read_cases_are

pub returns-clause-whole : goal.returns-clause-whole
returns-clause-whole c = cases_are_read
