use Rattle.input_ranges.proofs.FactLemmas.{given_are_all, given_are_facts}
use Rattle.input_ranges.proofs.laws.each_has_a_fact.Goals as goal

pub returns-clause-facts : goal.returns-clause-facts
returns-clause-facts c = given_are_facts

pub returns-clause-all : goal.returns-clause-all
returns-clause-all c = given_are_all
