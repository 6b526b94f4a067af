use Rattle.std.proofs.Common.{ap}
use Rattle.command_plans.specs.Views.{InputView}
use Rattle.m_commands.proofs.Bounds.{bounded_of}
use Rattle.m_commands.proofs.Clauses.{text_of, writing_of, stopping_of}
use Rattle.m_commands.proofs.Compiling.{writes_of}
use Rattle.m_commands.proofs.Ends.{ends_of}
use Rattle.m_commands.proofs.Faults.{counted_of, memory_of, quiet_of, left_of, observation, usage_of}
use Rattle.m_commands.proofs.Reading.{reading_of}
use Rattle.m_commands.proofs.Taken.{taken_of}
use Rattle.m_commands.proofs.Valid.{complete_of}
use Rattle.m_commands.proofs.program.m_tax.Goals as goal

pub returns-clause-text : goal.returns-clause-text
returns-clause-text g c = text_of c.args.words.now _ _ _ _ _ _ _ c.perform.ensures

pub returns-clause-compiled : goal.returns-clause-compiled
returns-clause-compiled g c = writes_of c.args.words.now _ _ _ _ _ _ _ c.perform.ensures

pub returns-clause-reading : goal.returns-clause-reading
returns-clause-reading g c = reading_of c.args.words.now _ _ _ _ _ _ _ c.perform.ensures

pub returns-clause-taken : goal.returns-clause-taken
returns-clause-taken g c = taken_of c.args.words.now _ _ _ _ _ _ _ c.perform.ensures

pub returns-clause-input_left : goal.returns-clause-input_left
returns-clause-input_left g c = λ unread. ap (λ (v : InputView). v.left) (left_of c.args.words.now _ _ _ _ _ _ _ c.perform.ensures unread)

pub returns-clause-input_faults : goal.returns-clause-input_faults
returns-clause-input_faults g c = λ unread. ap (λ (v : InputView). v.faults) (left_of c.args.words.now _ _ _ _ _ _ _ c.perform.ensures unread)

pub returns-clause-input_end : goal.returns-clause-input_end
returns-clause-input_end g c = ends_of c.args.words.now _ _ _ _ _ _ _ c.perform.ensures

pub returns-clause-input_taken : goal.returns-clause-input_taken
returns-clause-input_taken g c = bounded_of c.args.words.now _ _ _ _ _ _ _ c.perform.ensures

pub returns-clause-read_reported : goal.returns-clause-read_reported
returns-clause-read_reported g c = observation c.args.words.now _ _ _ _ _ _ _ c.perform.ensures

pub returns-clause-write_fault : goal.returns-clause-write_fault
returns-clause-write_fault g c = (counted_of c.args.words.now _ _ _ _ _ _ _ c.perform.ensures).only

pub returns-clause-write_reported : goal.returns-clause-write_reported
returns-clause-write_reported g c = (counted_of c.args.words.now _ _ _ _ _ _ _ c.perform.ensures).always

pub returns-clause-writing : goal.returns-clause-writing
returns-clause-writing g c = writing_of c.args.words.now _ _ _ _ _ _ _ c.perform.ensures

pub returns-clause-memory : goal.returns-clause-memory
returns-clause-memory g c = memory_of c.args.words.now _ _ _ _ _ _ _ c.perform.ensures

pub returns-clause-memory_front : goal.returns-clause-memory_front
returns-clause-memory_front g c = stopping_of c.args.words.now _ _ _ _ _ _ _ c.perform.ensures

pub returns-clause-memory_input : goal.returns-clause-memory_input
returns-clause-memory_input g c = λ m. ap (λ (v : InputView). v.left) (quiet_of c.args.words.now _ _ _ _ _ _ _ c.perform.ensures m)

pub returns-clause-completeness : goal.returns-clause-completeness
returns-clause-completeness g c = complete_of c.args.words.now _ _ _ _ _ _ _ c.perform.ensures

pub returns-clause-usage : goal.returns-clause-usage
returns-clause-usage g c = usage_of c.args.words.now _ _ _ _ _ _ _ c.perform.ensures
