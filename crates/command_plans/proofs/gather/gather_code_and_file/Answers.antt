use Rattle.m_places.specs.declared.limits.TheConstants.{CODE_FILE_BYTES, FILE_BYTES}
use Rattle.command_plans.specs.Plan.{file_plan}
use Rattle.command_plans.proofs.Trips.{along_then, along_done, exits_ended}
use Rattle.command_plans.proofs.gather.gather_code_and_file.Goals as goal

pub returns-in_err-bytes-clause-along : goal.returns-in_err-bytes-clause-along
returns-in_err-bytes-clause-along g c =
    exits_ended (file_plan c.args.code.now CODE_FILE_BYTES) _ _ _ _ _ c.in_err-bytes.ensures.along c.from_residual.ensures.1

pub returns-in_err-more-clause-along : goal.returns-in_err-more-clause-along
returns-in_err-more-clause-along g c =
    along_then (file_plan c.args.code.now CODE_FILE_BYTES) _ _ _ _ _ _ c.in_ok-bytes.ensures.along
    (exits_ended (file_plan c.args.name.now FILE_BYTES) _ _ _ _ _ c.in_err-more.ensures.along c.from_residual-in_err-more.ensures.1)

pub returns-clause-along : goal.returns-clause-along
returns-clause-along g c =
    along_then (file_plan c.args.code.now CODE_FILE_BYTES) _ _ _ _ _ _ c.in_ok-bytes.ensures.along
    (along_then (file_plan c.args.name.now FILE_BYTES) _ _ _ _ _ _ c.in_ok-more.ensures.along (along_done _ _))
