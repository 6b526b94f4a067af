use Rattle.survey_commands.proofs.answer.answer.Goals as goal

pub returns-in-Table : goal.returns-in-Table
returns-in-Table g c = rw c.in-Table.is (rw c.as_slice.ensures at c.table_source.ensures)

pub returns-in-Facts : goal.returns-in-Facts
returns-in-Facts g c = rw c.in-Facts.is c.facts_source.ensures

pub returns-in-CodeTable : goal.returns-in-CodeTable
returns-in-CodeTable g c = rw c.in-CodeTable.is (rw c.as_slice-in-CodeTable-2.ensures at rw c.as_slice-in-CodeTable.ensures at c.table_code.ensures)

pub returns-in-Version : goal.returns-in-Version
returns-in-Version g c = rw c.in-Version.is c.print_version.ensures
