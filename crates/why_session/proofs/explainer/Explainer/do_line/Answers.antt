use Rattle.std.proofs.Common.{◌≡◌, ◌∷◌, length, refl, ap, sym, ◌∙◌, subst, arith}
use Rattle.m_ports.specs.Giving.{Gives}
use Rattle.household_session.specs.Commands.{session_command}
use Rattle.household_session.specs.Repliers.{replied_then}
use Rattle.household_session.specs.Replies.{reply_of}
use Rattle.household_session.specs.Seats.{seated_reply}
use Rattle.m_fixed.specs.declared.amount.Value.{Value}
use Rattle.why_report.specs.Starts.{Reporting, with_input}
use Rattle.why_session.specs.Joined.{Joined, joined_replies}
use Rattle.why_session.proofs.EditLemmas.{as_many, named_within}
use Rattle.why_session.proofs.ReasonLemmas.{line_goes_on, line_put}
use Rattle.why_session.proofs.explainer.Explainer.do_line.Goals as goal

pub put-requires : goal.put-requires
put-requires g c =
    let inside = c.self.inside in
    let parts = c.self.invariant in
    let low = named_within inside.session.sitting.face.inputs (session_command c.args.line.now) c.in-Some.input (sym c.input_named-named.ensures.named
    ∙ c.in-Some.is) in
    omega (arith, low, as_many inside.session.sitting.face.inputs inside.session.sitting.values parts.values, ap length parts.same)

pub invariant_of-self : goal.invariant_of-self
invariant_of-self g c =
    let inside = c.self.inside in
    line_put inside.session c.command-replied.new.self inside.reporter c.put.new.self inside.names c.args.line.now c.in-Some.input c.self.invariant
    c.command-replied.ensures.sitting
    (sym c.input_named-named.ensures.named ∙ c.in-Some.is) (c.put.ensures.put
    ∙ ap (λ (v : Value). with_input inside.reporter c.in-Some.input v) c.input_value.ensures)
    (c.put.ensures.start inside.names c.self.invariant.start)

pub returns-in-Some-clause-goes_on : goal.returns-in-Some-clause-goes_on
returns-in-Some-clause-goes_on g c = λ lines.
    let inside = c.self.inside in
    let joined : Joined = record { seated = inside.session; reporting = inside.reporter; declared = inside.names } in
    let later : Joined = record { seated = c.command-replied.new.self; reporting = c.put.new.self; declared = inside.names } in
    subst (λ (j : Joined). joined_replies j (c.args.line.now ∷ lines) ≡ replied_then (seated_reply j.seated c.args.line.now)
    (joined_replies later lines)) c.self.view_is
    (line_goes_on joined later c.args.line.now c.requires (λ i. record {
      sitting = c.command-replied.ensures.sitting i;
      since = c.command-replied.ensures.since i;
    }) refl (ap (λ (r : Reporting). r.ordered) c.put.ensures.put) lines)

pub returns-in-None-clause-gives : goal.returns-in-None-clause-gives
returns-in-None-clause-gives g c =
    subst (λ (j : Joined). Gives g.K.Sink.written g.K.Sink.faults c.args.out.now c.command-replied.new.out c.command-replied.result
    (reply_of j.seated.sitting c.args.line.now)) c.self.view_is
    c.command-replied.ensures.text

pub returns-in-None-clause-goes_on : goal.returns-in-None-clause-goes_on
returns-in-None-clause-goes_on g c = λ lines.
    let inside = c.self.inside in
    let joined : Joined = record { seated = inside.session; reporting = inside.reporter; declared = inside.names } in
    let later : Joined = record { seated = c.command-replied.new.self; reporting = inside.reporter; declared = inside.names } in
    subst (λ (j : Joined). joined_replies j (c.args.line.now ∷ lines) ≡ replied_then (seated_reply j.seated c.args.line.now)
    (joined_replies later lines)) c.self.view_is
    (line_goes_on joined later c.args.line.now c.requires (λ i. record {
      sitting = c.command-replied.ensures.sitting i;
      since = c.command-replied.ensures.since i;
    }) refl refl lines)
