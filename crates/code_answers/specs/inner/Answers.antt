-- The answer of code to a household.
use Rattle.std.specs.Prelude.{◌≡◌, ℕ, ℤ, List, Ok}
use Rattle.observables.specs.declared.answer.Answer.{Answer}
use Rattle.reg_machine.specs.Machine.{machine_run}
use Rattle.code_file.specs.declared.loaded.Loaded.{Loaded}
use Rattle.household.specs.Household.{household_of, values_of}

-- the household of these bytes has no fault, and this is the code's answer to it
pub record IsAnswerOf (loaded : Loaded) (rows : List ℕ) (answer : Answer) : Type 0 where
  pub pairs : List (ℕ × ℤ)
  pub given : household_of loaded.face.inputs rows ≡ Ok pairs
  pub ran : answer ≡ machine_run loaded.code (values_of pairs loaded.code.counts.inputs)
