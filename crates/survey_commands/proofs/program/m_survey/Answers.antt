use Rattle.survey_commands.proofs.Clauses.{text_of, writing_of, stopping_of}
use Rattle.survey_commands.proofs.Faults.{counted_of, memory_of, usage_of}
use Rattle.survey_commands.proofs.Reading.{reading_of}
use Rattle.survey_commands.proofs.Taken.{taken_of}
use Rattle.survey_commands.proofs.Valid.{complete_of}
use Rattle.survey_commands.proofs.program.m_survey.Goals as goal

pub returns-clause-text : goal.returns-clause-text
returns-clause-text g c = text_of c.args.words.now _ _ _ _ _ c.perform.ensures

pub returns-clause-reading : goal.returns-clause-reading
returns-clause-reading g c = reading_of c.args.words.now _ _ _ _ _ c.perform.ensures

pub returns-clause-taken : goal.returns-clause-taken
returns-clause-taken g c = taken_of c.args.words.now _ _ _ _ _ c.perform.ensures

pub returns-clause-write_fault : goal.returns-clause-write_fault
returns-clause-write_fault g c = (counted_of c.args.words.now _ _ _ _ _ c.perform.ensures).only

pub returns-clause-write_reported : goal.returns-clause-write_reported
returns-clause-write_reported g c = (counted_of c.args.words.now _ _ _ _ _ c.perform.ensures).always

pub returns-clause-writing : goal.returns-clause-writing
returns-clause-writing g c = writing_of c.args.words.now _ _ _ _ _ c.perform.ensures

pub returns-clause-memory : goal.returns-clause-memory
returns-clause-memory g c = memory_of c.args.words.now _ _ _ _ _ c.perform.ensures

pub returns-clause-memory_front : goal.returns-clause-memory_front
returns-clause-memory_front g c = stopping_of c.args.words.now _ _ _ _ _ c.perform.ensures

pub returns-clause-completeness : goal.returns-clause-completeness
returns-clause-completeness g c = complete_of c.args.words.now _ _ _ _ _ c.perform.ensures

pub returns-clause-usage : goal.returns-clause-usage
returns-clause-usage g c = usage_of c.args.words.now _ _ _ _ _ c.perform.ensures
