use Rattle.m_places.specs.declared.limits.TheConstants.{RULE_BYTES}
use Rattle.command_plans.proofs.Trips.{along_then, exits_ended}
use Rattle.command_plans.specs.Source.{list_plan, rules_plan}
use Rattle.command_plans.proofs.gather.gather_source.Goals as goal

pub returns-in_err-application-clause-along : goal.returns-in_err-application-clause-along
returns-in_err-application-clause-along g c = exits_ended (list_plan c.args.names.now.list) _ _ _ _ _ c.in_err-application.ensures.along
    c.from_residual.ensures.1

pub returns-in_err-texts-clause-along : goal.returns-in_err-texts-clause-along
returns-in_err-texts-clause-along g c =
    along_then (list_plan c.args.names.now.list) _ _ _ _ _ _ c.in_ok-application.ensures.along
    (exits_ended (rules_plan RULE_BYTES c.in_ok-application.field-0.files) _ _ _ _ _ (rw c.as_slice.ensures at c.in_err-texts.ensures.along)
    c.from_residual-in_err-texts.ensures.1)

pub returns-clause-along : goal.returns-clause-along
returns-clause-along g c =
    along_then (list_plan c.args.names.now.list) _ _ _ _ _ _ c.in_ok-application.ensures.along
    (along_then (rules_plan RULE_BYTES c.in_ok-application.field-0.files) _ _ _ _ _ _ (rw c.as_slice.ensures at c.in_ok-texts.ensures.along)
    c.gather_parts.ensures.along)

pub gather_rules-requires : goal.gather_rules-requires
gather_rules-requires g c = rw c.as_slice.ensures c.in_ok-application.ensures.few
