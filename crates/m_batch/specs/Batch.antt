-- The answers of a table's rows.
use Rattle.std.specs.Prelude.{ℕ, ◌<◌, List, map}
use Rattle.std.specs.List.{AllByRecursion}
use Rattle.observables.specs.declared.answer.Answer.{Answer}
use Rattle.reg_machine.specs.Flow.{Listing}
use Rattle.reg_machine.specs.Machine.{machine_run}
use Rattle.household.specs.declared.table.Row.{Row}
use Rattle.household.specs.Household.{inputs_of, values_of}

-- a row has amounts only for inputs below this count
abbrev pub HasInputsBelow : ℕ → Row → Type 0
HasInputsBelow inputs row = AllByRecursion (λ input. input < inputs) (inputs_of row.household.pairs)

-- The answer of code to a row: its run on the row's amounts, with the other inputs undefined.
abbrev pub row_answer : Listing → Row → Answer
row_answer code row = machine_run code (values_of row.household.pairs code.counts.inputs)

-- The answers of rows, in their order.
abbrev pub answers_of : Listing → List Row → List Answer
answers_of code rows = map (row_answer code) rows

-- code, and the rows that it hasn't run yet
pub record Left : Type 0 where
  pub code : Listing
  pub rows : List Row
