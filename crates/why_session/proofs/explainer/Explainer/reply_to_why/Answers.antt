use Rattle.std.proofs.Common.{List, ℕ, ap, sym, ◌∙◌, subst, arith}
use Rattle.m_ports.specs.Giving.{Gives}
use Rattle.why_report.specs.Starts.{Reporting}
use Rattle.why_session.specs.Joined.{Joined, explains_in, joined_replies}
use Rattle.why_session.proofs.ReasonLemmas.{found_stays, replies_stay, reported_unknown, reported_why}
use Rattle.why_session.proofs.explainer.Explainer.reply_to_why.Goals as goal

pub why-requires : goal.why-requires
why-requires g c = omega (arith, c.self.invariant.cells, c.in-Some.ensures.known)

pub print_lines-requires : goal.print_lines-requires
print_lines-requires g c = rw c.lines.ensures (λ k d low. let known = c.why.ensures.known k d low in omega (arith, known, c.self.invariant.cells))

pub invariant_of-self : goal.invariant_of-self
invariant_of-self g c = found_stays c.self.inside.session c.self.inside.reporter c.why.new.self c.self.inside.names _ c.self.invariant c.why.ensures.lines
    (c.why.ensures.start c.self.inside.names c.self.invariant.start)

pub returns-in-Some-clause-gives : goal.returns-in-Some-clause-gives
returns-in-Some-clause-gives g c =
    let inside = c.self.inside in
    let joined : Joined = record { seated = inside.session; reporting = inside.reporter; declared = inside.names } in
    let text = reported_why joined c.args.name.now c.in-Some.cell c.lines.result.now c.self.invariant (sym c.find.ensures.cell ∙ c.in-Some.is)
    (c.lines.ensures ∙ ap (λ (r : Reporting). r.lines) c.why.ensures.lines) in
    subst (λ (j : Joined). Gives g.K.Sink.written g.K.Sink.faults c.args.out.now c.print_lines.new.out c.print_lines.result (explains_in j c.args.name.now))
    c.self.view_is
    (subst (λ (t : List ℕ). Gives g.K.Sink.written g.K.Sink.faults c.args.out.now c.print_lines.new.out c.print_lines.result t) (sym text)
    c.print_lines.ensures)

pub returns-in-Some-clause-stays : goal.returns-in-Some-clause-stays
returns-in-Some-clause-stays g c =
    replies_stay c.self.inside.session c.self.inside.reporter c.why.new.self c.self.inside.names _ c.why.ensures.lines ∙ ap joined_replies c.self.view_is

pub returns-in-None-clause-gives : goal.returns-in-None-clause-gives
returns-in-None-clause-gives g c =
    let inside = c.self.inside in
    let joined : Joined = record { seated = inside.session; reporting = inside.reporter; declared = inside.names } in
    let text = reported_unknown joined c.args.name.now (sym c.find.ensures.cell ∙ c.in-None.is) in
    subst (λ (j : Joined). Gives g.K.Sink.written g.K.Sink.faults c.args.out.now c.give_pieces.new.out c.give_pieces.result (explains_in j c.args.name.now))
    c.self.view_is
    (subst (λ (t : List ℕ). Gives g.K.Sink.written g.K.Sink.faults c.args.out.now c.give_pieces.new.out c.give_pieces.result t) (sym text)
    c.give_pieces.ensures)
