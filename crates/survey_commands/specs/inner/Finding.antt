-- The answer over a base and its program.
use Rattle.std.specs.Prelude.{◌≡◌, ℕ, List, Option, Some, Ok, Err}
use Rattle.definedness.specs.Facts.{Possible}
use Rattle.micro_m.specs.declared.base.Base.{Base}
use Rattle.household.specs.declared.fault.HouseholdFault.{HouseholdFault}
use Rattle.m_facts.specs.Lines.{facts_text}
use Rattle.m_compile.specs.declared.compiling.Program.{Program}
use Rattle.command_plans.specs.declared.status.Status.{Status}
use Rattle.command_plans.specs.declared.status.Status.TheVariants.{Done, Refused}
use Rattle.survey_commands.specs.Facts.{given_by, ranges_fault_line}

-- the text has the facts that follow from these facts of the inputs, and the command has done its work
pub data IsFactsBy (base : Base) (program : Program) (given : List Possible) : List ℕ → Status → Type 0 where
  are_facts : IsFactsBy base program given (facts_text base program.tidy program.face given) Done

-- the text is the line of a fault of the ranges, or has the facts within them
pub data IsFactsOf (base : Base) (program : Program) (ranges : Option (List ℕ)) : List ℕ → Status → Type 0 where
  are_refused : {line : List ℕ} (fault : HouseholdFault) → given_by program.face.inputs ranges ≡ Err fault → ranges_fault_line fault ≡ Some line
      → IsFactsOf base program ranges line Refused
  are_found : {text : List ℕ} {status : Status} (given : List Possible) → given_by program.face.inputs ranges ≡ Ok given
      → IsFactsBy base program given text status
      → IsFactsOf base program ranges text status
