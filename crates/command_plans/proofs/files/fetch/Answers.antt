use Rattle.std.proofs.Common.{ap, Err}
use Rattle.command_plans.specs.Trips.{fetches_without_memory, fails, finds_too_long}
use Rattle.command_plans.proofs.Trips.{exits_without_memory, along_fetch, walks_one}
use Rattle.command_plans.proofs.files.fetch.Goals as goal

pub returns-in_err-name-clause-along : goal.returns-in_err-name-clause-along
returns-in_err-name-clause-along g c = exits_without_memory _ _ _ c.from_residual.ensures.1

pub returns-in-Ok-clause-along : goal.returns-in-Ok-clause-along
returns-in-Ok-clause-along g c =
    along_fetch _ _ _ _ _ _ _ c.in_ok-name.ensures (walks_one _ _ _ _ _ c.in-Ok.ensures.whole c.in-Ok.ensures.within c.from_vec.ensures)
    c.in-Ok.ensures.same c.in-Ok.ensures.attempt c.in-Ok.ensures.bounded

pub returns-in-Err-Failed-clause-along : goal.returns-in-Err-Failed-clause-along
returns-in-Err-Failed-clause-along g c =
    along_fetch _ _ _ _ _ _ _ c.in_ok-name.ensures fails
    c.in-Err-Failed.ensures.same (rw c.in-Err-Failed.field-0-is at c.in-Err-Failed.ensures.attempt) c.in-Err-Failed.ensures.bounded

pub returns-in-Err-TooLong-clause-along : goal.returns-in-Err-TooLong-clause-along
returns-in-Err-TooLong-clause-along g c =
    along_fetch _ _ _ _ _ _ _ c.in_ok-name.ensures (finds_too_long (c.in-Err-TooLong.ensures.too_long (ap Err c.in-Err-TooLong.field-0-is)))
    c.in-Err-TooLong.ensures.same (rw c.in-Err-TooLong.field-0-is at c.in-Err-TooLong.ensures.attempt) c.in-Err-TooLong.ensures.bounded

pub returns-in-Err-Memory-clause-along : goal.returns-in-Err-Memory-clause-along
returns-in-Err-Memory-clause-along g c =
    along_fetch _ _ _ _ _ _ _ c.in_ok-name.ensures fetches_without_memory
    c.in-Err-Memory.ensures.same (rw c.in-Err-Memory.field-0-is at c.in-Err-Memory.ensures.attempt) c.in-Err-Memory.ensures.bounded
