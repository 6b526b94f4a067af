use Rattle.std.proofs.Common.{length, ap, sym, ◌∙◌, subst}
use Rattle.observables.specs.Inputs.{AreValuesOf}
use Rattle.observables.specs.declared.face.Face.{Face}
use Rattle.household_session.specs.Seats.{Seated}
use Rattle.household_session.specs.Sessions.{Sitting}
use Rattle.command_answers.specs.inner.Answers.{IsBegun}
use Rattle.command_answers.proofs.serving.explainer_of.Goals as goal

pub new-requires-clause-values : goal.new-requires-clause-values
new-requires-clause-values c =
    let begins = c.in-Ok.ensures.outcome.begins in
    subst (λ (f : Face). AreValuesOf f.inputs c.in-Ok.session.sitting.values) (sym (ap (λ (s : Sitting). s.face) begins)) c.in-Ok.ensures.values

pub new-requires-clause-many : goal.new-requires-clause-many
new-requires-clause-many c = ap (λ (s : Sitting). length s.face.inputs) c.in-Ok.ensures.outcome.begins ∙ c.requires.many

pub returns-in_ok-new-in-Ok : goal.returns-in_ok-new-in-Ok
returns-in_ok-new-in-Ok c = record {
  session = subst (λ (s : Seated). IsBegun c.args.program c.args.household.now s.sitting) (sym c.in_ok-new-in-Ok.ensures.session) c.in-Ok.ensures.outcome;
  declares = c.in_ok-new-in-Ok.ensures.declared;
  orders = c.in_ok-new-in-Ok.ensures.ordered;
}
