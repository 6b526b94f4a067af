use Rattle.std.proofs.Common.{sym}
use Rattle.command_plans.proofs.Trips.{along_then, along_done, exits_ended}
use Rattle.command_plans.proofs.Parts.{absent, there}
use Rattle.command_plans.proofs.gather.gather_optional.Goals as goal

pub returns-then-is_none-clause-along : goal.returns-then-is_none-clause-along
returns-then-is_none-clause-along g c = absent _ c.args.name.now (sym c.if-is_none.ensures)

pub returns-in_err-bytes-clause-along : goal.returns-in_err-bytes-clause-along
returns-in_err-bytes-clause-along g c = there _ _ c.args.name.now _ (sym c.if-is_none.ensures)
    (exits_ended _ _ _ _ _ _ c.in_err-bytes.ensures.along c.from_residual.ensures.1)

pub returns-clause-along : goal.returns-clause-along
returns-clause-along g c = there _ _ c.args.name.now _ (sym c.if-is_none.ensures) (along_then _ _ _ _ _ _ _ c.in_ok-bytes.ensures.along (along_done _ _))
