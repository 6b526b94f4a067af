use Rattle.command_plans.proofs.Trips.{along_then, along_without_memory, exits_ended}
use Rattle.command_plans.proofs.Lists.{few_listed, listed_ok, listed_bad, listed_many}
use Rattle.command_plans.proofs.gather.gather_list.Goals as goal

pub returns-in_err-bytes-clause-along : goal.returns-in_err-bytes-clause-along
returns-in_err-bytes-clause-along g c = exits_ended _ _ _ _ _ _ c.in_err-bytes.ensures.along c.from_residual.ensures.1

pub read_list-requires : goal.read_list-requires
read_list-requires g c = rw c.as_slice.ensures c.in_ok-bytes.ensures.within

pub returns-in-Ok-clause-along : goal.returns-in-Ok-clause-along
returns-in-Ok-clause-along g c = along_then _ _ _ _ _ _ _ c.in_ok-bytes.ensures.along
    (listed_ok _ c.in_ok-bytes.bytes _ (rw c.as_slice.ensures at c.in-Ok.ensures.outcome))

pub returns-in-Err-Memory-clause-along : goal.returns-in-Err-Memory-clause-along
returns-in-Err-Memory-clause-along g c = along_then _ _ _ _ _ _ _ c.in_ok-bytes.ensures.along (along_without_memory _ _)

pub returns-in-Err-BadLine-clause-along : goal.returns-in-Err-BadLine-clause-along
returns-in-Err-BadLine-clause-along g c =
    along_then _ _ _ _ _ _ _ c.in_ok-bytes.ensures.along
    (listed_bad _ c.in_ok-bytes.bytes _ _ c.in-Err-BadLine.field-0-is
    (rw c.as_slice.ensures at (c.in-Err-BadLine.ensures.outcome (λ e. let f = c.in-Err-BadLine.field-0-is in cc (e, f)))))

pub returns-clause-along : goal.returns-clause-along
returns-clause-along g c =
    along_then _ _ _ _ _ _ _ c.in_ok-bytes.ensures.along
    (listed_many _ c.in_ok-bytes.bytes _ c.in-Err-TooManyFiles.field-0-is
    (rw c.as_slice.ensures at (c.in-Err-TooManyFiles.ensures.outcome (λ e. let f = c.in-Err-TooManyFiles.field-0-is in cc (e, f)))))

pub returns-in-Ok-clause-few : goal.returns-in-Ok-clause-few
returns-in-Ok-clause-few g c = few_listed c.in_ok-bytes.bytes _ (rw c.as_slice.ensures at c.in-Ok.ensures.outcome)
