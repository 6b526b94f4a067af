use Rattle.m_places.specs.declared.limits.TheConstants.{CODE_FILE_BYTES, FILE_BYTES}
use Rattle.command_plans.specs.Plan.{file_plan}
use Rattle.command_plans.proofs.Trips.{along_then, along_done, exits_ended, exits_without_memory}
use Rattle.command_plans.specs.Source.{source_plan}
use Rattle.m_commands.specs.Command.{rules_only}
use Rattle.m_commands.proofs.gather.gather_check.Goals as goal

pub returns-in_err-names-clause-along : goal.returns-in_err-names-clause-along
returns-in_err-names-clause-along g c = exits_without_memory _ _ _ c.from_residual.ensures.1

pub returns-in_err-source-clause-along : goal.returns-in_err-source-clause-along
returns-in_err-source-clause-along g c = exits_ended (source_plan (rules_only c.args.list.now)) _ _ _ _ _
    (rw c.in_ok-names.ensures at c.in_err-source.ensures.along) c.from_residual-in_err-source.ensures.1

pub returns-in_err-rows-clause-along : goal.returns-in_err-rows-clause-along
returns-in_err-rows-clause-along g c =
    along_then (source_plan (rules_only c.args.list.now)) _ _ _ _ _ _ (rw c.in_ok-names.ensures at c.in_ok-source.ensures.along)
    (exits_ended (file_plan c.args.household.now FILE_BYTES) _ _ _ _ _ c.in_err-rows.ensures.along c.from_residual-in_err-rows.ensures.1)

pub returns-in_err-report-clause-along : goal.returns-in_err-report-clause-along
returns-in_err-report-clause-along g c =
    along_then (source_plan (rules_only c.args.list.now)) _ _ _ _ _ _ (rw c.in_ok-names.ensures at c.in_ok-source.ensures.along)
    (along_then (file_plan c.args.household.now FILE_BYTES) _ _ _ _ _ _ c.in_ok-rows.ensures.along
    (exits_ended (file_plan c.args.report.now CODE_FILE_BYTES) _ _ _ _ _ c.in_err-report.ensures.along c.from_residual-in_err-report.ensures.1))

pub returns-clause-along : goal.returns-clause-along
returns-clause-along g c =
    along_then (source_plan (rules_only c.args.list.now)) _ _ _ _ _ _ (rw c.in_ok-names.ensures at c.in_ok-source.ensures.along)
    (along_then (file_plan c.args.household.now FILE_BYTES) _ _ _ _ _ _ c.in_ok-rows.ensures.along
    (along_then (file_plan c.args.report.now CODE_FILE_BYTES) _ _ _ _ _ _ c.in_ok-report.ensures.along (along_done _ _)))
