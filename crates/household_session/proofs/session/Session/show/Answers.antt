use Rattle.std.proofs.Common.{◌+◌, ap, refl, subst, ◌∙◌}
use Rattle.std.proofs.lemmas.Result.{err_from_is_err_and}
use Rattle.m_ports.specs.Giving.{Gives}
use Rattle.m_ports.proofs.GivingLemmas.{none_given, piece_given, piece_failed, last_given}
use Rattle.household_session.specs.Sessions.{showing_of, shown}
use Rattle.household_session.specs.Seats.{Seated, show_cost}
use Rattle.household_session.proofs.session.Session.show.Goals as goal

pub returns-in_err-print_sheet-clause-text : goal.returns-in_err-print_sheet-clause-text
returns-in_err-print_sheet-clause-text g c =
    let p = err_from_is_err_and c.from_residual.result c.from_residual.ensures.1 in
    let gave = rw c.settle.ensures.after at c.in_err-print_sheet.ensures in
    subst (λ (seated : Seated). Gives g.K.Sink.written g.K.Sink.faults c.args.out.now c.print_sheet.new.out c.from_residual.result
    (shown (showing_of seated.sitting) seated.sitting.values)) c.self.view_is
    (piece_failed _ _ _ _ _ _ _ _ _ _ _ p.1 refl (none_given _ _ _ _) gave.failed gave.prefix gave.counted)

pub returns-in_err-print_sheet-clause-cost : goal.returns-in_err-print_sheet-clause-cost
returns-in_err-print_sheet-clause-cost g c =
    c.settle.ensures.cost ∙ ap (λ (seated : Seated). c.args.steps.now + show_cost seated) c.self.view_is

pub returns-clause-text : goal.returns-clause-text
returns-clause-text g c =
    let gave = rw c.settle.ensures.after at c.in_ok-print_sheet.ensures in
    subst (λ (seated : Seated). Gives g.K.Sink.written g.K.Sink.faults c.args.out.now c.give_pieces.new.out c.give_pieces.result
    (shown (showing_of seated.sitting) seated.sitting.values)) c.self.view_is
    (last_given _ _ _ _ _ _ _ _ (piece_given _ _ _ _ _ _ _ _ _ refl (none_given _ _ _ _) gave.all gave.faultless) c.give_pieces.ensures)

pub returns-clause-cost : goal.returns-clause-cost
returns-clause-cost g c =
    c.settle.ensures.cost ∙ ap (λ (seated : Seated). c.args.steps.now + show_cost seated) c.self.view_is
