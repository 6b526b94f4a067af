use Rattle.survey_commands.proofs.ranges.given_facts.Goals as goal

pub returns-in-Some : goal.returns-in-Some
returns-in-Some c = rw c.in-Some.is (rw c.as_slice.ensures at c.read_ranges.ensures)
