use Rattle.std.proofs.Common.{◌≡◌, ap, sym}
use Rattle.household_session.specs.Repliers.{replied_then}
use Rattle.household_session.specs.Seats.{Seated, seated_after, seated_replies, seated_reply}
use Rattle.household_session.proofs.replier.SessionReplier.reply.Goals as goal

pub returns : goal.returns
returns g c =
    let after : c.command.new.self ≡ seated_after c.args.self.now c.args.line.now =
    λ i. record { sitting = c.command.ensures.sitting i; since = c.command.ensures.since i } in
    record {
      reply = seated_reply c.args.self.now c.args.line.now;
      gives = c.command.ensures.text;
      counted = c.command.ensures.cost;
      goes_on = λ lines. ap (λ (seated : Seated). replied_then (seated_reply c.args.self.now c.args.line.now) (seated_replies seated lines)) (sym after);
    }
