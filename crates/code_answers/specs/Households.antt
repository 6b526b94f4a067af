-- The line of each fault of a household or a table, and the status of an observation.
use Rattle.std.specs.Prelude.{ℕ, List, Option, Some, None, codes}
use Rattle.tax_print.specs.FaultLines.{at_line, input_line}
use Rattle.observables.specs.Answers.{Observation, values, stopped}
use Rattle.observables.specs.declared.answer.Answer.{Answer}
use Rattle.observables.specs.declared.answer.Answer.TheVariants.{Values, Stopped as AnswerStopped}
use Rattle.household.specs.declared.fault.HouseholdFault.{HouseholdFault}
use Rattle.household.specs.declared.fault.HouseholdFault.TheVariants.{BadHeader, TooManyRows, BadRow, UnknownCode, BadAmount, NotOfType, CodeTwice, Memory}
use Rattle.command_plans.specs.declared.status.Status.{Status}
use Rattle.command_plans.specs.declared.status.Status.TheVariants.{Done, Stopped}

-- The line of a fault of records, which the input is named for; none for out of memory. An unknown code in record 2 of a
-- household has `refused household line 2: unknown code`.
abbrev pub records_fault_line : (input : List ℕ) → HouseholdFault → Option (List ℕ)
records_fault_line input BadHeader = Some (input_line input (codes "bad header"))
records_fault_line input TooManyRows = Some (input_line input (codes "too many rows"))
records_fault_line input (BadRow line) = Some (at_line input line (codes "bad row"))
records_fault_line input (UnknownCode line) = Some (at_line input line (codes "unknown code"))
records_fault_line input (BadAmount line) = Some (at_line input line (codes "bad amount"))
records_fault_line input (NotOfType line) = Some (at_line input line (codes "not of its type"))
records_fault_line input (CodeTwice line) = Some (at_line input line (codes "code twice"))
records_fault_line input Memory = None

-- the line of a fault of a household or a table
abbrev pub household_fault_line : HouseholdFault → Option (List ℕ)
household_fault_line fault = records_fault_line (codes "household") fault

-- the status of an observation: the values, or what stopped the run
abbrev pub observation_status : Observation → Status
observation_status (values notes vs) = Done
observation_status (stopped cause) = Stopped

-- the status of a program's answer
abbrev pub answer_status : Answer → Status
answer_status (Values vs) = Done
answer_status (AnswerStopped stop) = Stopped
