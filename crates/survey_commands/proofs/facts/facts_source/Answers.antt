use Rattle.std.proofs.Common.{arith}
use Rattle.rule_base.proofs.Small.{few-checks}
use Rattle.rule_answers.proofs.Refusals.{fault_reported}
use Rattle.m_compile.proofs.ProgramLaws.{labels_first}
use Rattle.survey_commands.proofs.FactsLemmas.{facts_answered, facts_refused}
use Rattle.survey_commands.proofs.facts.facts_source.Goals as goal

pub answer_facts-status-requires-clause-few : goal.answer_facts-status-requires-clause-few
answer_facts-status-requires-clause-few g c = let few = few-checks c.in-Ok.ensures.rules.made in omega (arith, few)

pub answer_facts-status-requires-clause-first_labels : goal.answer_facts-status-requires-clause-first_labels
answer_facts-status-requires-clause-first_labels g c =
    labels_first c.args.source.now c.in-Ok.made.symbols c.in-Ok.made.ordered.base c.in-Ok.program c.in-Ok.ensures.rules c.in-Ok.ensures.outcome

pub returns-in-Ok : goal.returns-in-Ok
returns-in-Ok g c =
    facts_answered c.args.source.now c.in-Ok.made.symbols c.in-Ok.made.ordered.base c.in-Ok.program c.args.ranges.now _ _ _ c.in-Ok.ensures.rules
    c.in-Ok.ensures.outcome
    c.answer_facts-status.ensures

pub returns-in-Err : goal.returns-in-Err
returns-in-Err g c =
    facts_refused c.args.source.now c.args.ranges.now c.in-Err.fault _ _ _
    (fault_reported c.args.source.now c.in-Err.fault _ _ _ c.in-Err.ensures.outcome c.report_source.ensures)
