use Rattle.std.proofs.Common.{◌<◌, length, sym, ◌∙◌, subst, arith}
use Rattle.std.proofs.lemmas.Bool.{eqb-false}
use Rattle.household_session.specs.Repliers.{Replied}
use Rattle.household_session.specs.inner.Going.{BreaksOff, Gave}
use Rattle.household_session.proofs.LineLemmas.{whole-last}
use Rattle.household_session.proofs.turns.finish.Goals as goal

pub returns-in-Ok : goal.returns-in-Ok
returns-in-Ok g c =
    let other = eqb-false (length c.args.held.now) 0 (sym c.is_empty.ensures ∙ c.if-is_empty.false) in
    let some : 0 < length c.args.held.now = omega (arith, other) in
    let reported = c.in-Ok.ensures in
    subst (λ (replies : Replied). Gave g.K.Sink.written g.K.Sink.faults c.args.out.now c.reply.new.out c.args.steps.now c.reply.new.steps replies)
    (sym (whole-last (g.R.Replier.replies c.args.replier.now) _ c.args.held.now _ (g.met.R.Replier.nothing c.reply.new.self) c.requires some reported.goes_on))
    (record { appended = reported.gives.all; faultless = reported.gives.faultless; counted = reported.counted })

pub returns-in-Err : goal.returns-in-Err
returns-in-Err g c =
    let other = eqb-false (length c.args.held.now) 0 (sym c.is_empty.ensures ∙ c.if-is_empty.false) in
    let some : 0 < length c.args.held.now = omega (arith, other) in
    let reported = c.in-Err.ensures in
    subst (λ (replies : Replied). BreaksOff g.K.Sink.written g.K.Sink.faults c.args.out.now c.reply.new.out c.args.steps.now c.reply.new.steps replies)
    (sym (whole-last (g.R.Replier.replies c.args.replier.now) _ c.args.held.now _ (g.met.R.Replier.nothing c.reply.new.self) c.requires some reported.goes_on))
    (record { rose = reported.gives.failed; within = (reported.gives.prefix, omega (arith, reported.counted)) })
