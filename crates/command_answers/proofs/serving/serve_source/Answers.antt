use Rattle.why_session.specs.Joined.{explains_by}
use Rattle.command_answers.proofs.ExplainedLemmas.{as_many_inputs, distinct_variables, is_explained}
use Rattle.rule_answers.proofs.Refusals.{fault_reported}
use Rattle.command_answers.proofs.Ways.{is_prepared, serve_answered, serve_refused}
use Rattle.command_answers.proofs.serving.serve_source.Goals as goal

pub answer_serve-requires-clause-many : goal.answer_serve-requires-clause-many
answer_serve-requires-clause-many g c =
    as_many_inputs c.args.source c.in-Ok.program c.in-Ok.made.symbols c.in-Ok.made.ordered.base
    (is_prepared c.args.source c.in-Ok.program c.in-Ok.ensures.outcome) c.in-Ok.ensures.rules

pub answer_serve-requires-clause-distinct : goal.answer_serve-requires-clause-distinct
answer_serve-requires-clause-distinct g c = distinct_variables c.args.source c.in-Ok.made.symbols c.in-Ok.made.ordered.base c.in-Ok.ensures.rules

pub returns-in-Ok : goal.returns-in-Ok
returns-in-Ok g c =
    let is = is_prepared c.args.source c.in-Ok.program c.in-Ok.ensures.outcome in
    serve_answered c.args.source c.in-Ok.program c.args.household.now _ _ _ _ _ (explains_by c.in-Ok.made.symbols c.in-Ok.made.ordered) is
    (is_explained c.args.source c.in-Ok.made.symbols c.in-Ok.made.ordered c.in-Ok.ensures.rules c.in-Ok.ensures.valid c.in-Ok.ensures.order)
    (c.answer_serve.ensures is.scheme is.shows)

pub returns-in-Err : goal.returns-in-Err
returns-in-Err g c =
    serve_refused c.args.source c.args.household.now c.in-Err.fault _ _ _ _
    (fault_reported c.args.source c.in-Err.fault _ _ _ c.in-Err.ensures.outcome c.report_source-status.ensures)
