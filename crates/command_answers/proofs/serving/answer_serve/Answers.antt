use Rattle.std.proofs.Common.{◌≡◌, Err}
use Rattle.flat_code.specs.Runs.{flat_run}
use Rattle.household.specs.Household.{household_of}
use Rattle.why_session.specs.Joined.{explains_by}
use Rattle.code_answers.proofs.Refusals.{household_refused}
use Rattle.command_answers.proofs.Ways.{session_refused, session_served}
use Rattle.command_answers.proofs.serving.answer_serve.Goals as goal

pub returns-in-Ok : goal.returns-in-Ok
returns-in-Ok g c = λ scheme shown.
    session_served scheme c.args.program c.args.made.symbols c.args.made.ordered c.args.household.now c.in-Ok.explainer c.requires.runnable shown
    c.in-Ok.ensures _ _ _ _ _ c.serve_explained.ensures

pub returns-in-Err : goal.returns-in-Err
returns-in-Err g c = λ scheme shown.
    session_refused scheme (explains_by c.args.made.symbols c.args.made.ordered) c.args.program.face (flat_run c.args.program.tidy) c.args.household.now
    c.in-Err.fault _ _ _ _ shown
    (household_refused c.in-Err.fault {IsFault = household_of c.args.program.face.inputs c.args.household.now ≡ Err c.in-Err.fault} _ _ _ c.in-Err.ensures
    (rw c.household_entry.ensures at c.report_refusal.ensures))
