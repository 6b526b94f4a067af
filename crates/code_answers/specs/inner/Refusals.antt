-- The output of a call that reports an error.
use Rattle.std.specs.Prelude.{◌≡◌, ℕ, List, Option, Some, None}
use Rattle.command_plans.specs.Printing.{Prints}
use Rattle.command_plans.specs.Views.{OutputView}
use Rattle.command_plans.specs.declared.status.Status.{Status}
use Rattle.command_plans.specs.declared.status.Status.TheVariants.{Memory, Refused}

-- The line was printed, if there is one; without one memory had run out, and nothing is printed.
abbrev pub ReportsLine : Option (List ℕ) → OutputView → OutputView → Status → Type 0
ReportsLine None old new status = (new ≡ old) × (status ≡ Memory)
ReportsLine (Some line) old new status = Prints line Refused old new status
