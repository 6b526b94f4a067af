use Rattle.std.proofs.Common.{ap, sym, ◌∙◌, arith}
use Rattle.std.specs.Prelude.{option_copied}
use Rattle.household_session.specs.Seats.{seated_reply}
use Rattle.why_session.specs.Joined.{explains_in}
use Rattle.why_session.proofs.ReasonLemmas.{why_goes_on}
use Rattle.why_session.proofs.explainer.ExplainerReplier.reply.Goals as goal

pub do_line-requires : goal.do_line-requires
do_line-requires g c = sym c.why_name.ensures ∙ ap option_copied c.in-None.is

pub returns-in-Some : goal.returns-in-Some
returns-in-Some g c = record {
  reply = record { text = explains_in c.args.self.now c.in-Some.name.now; cost = 0 };
  gives = c.reply_to_why.ensures.gives;
  counted = omega arith;
  goes_on = why_goes_on c.args.self.now c.reply_to_why.new.self c.args.line.now c.in-Some.name.now (sym c.why_name.ensures ∙ ap option_copied c.in-Some.is)
      c.reply_to_why.ensures.stays;
}

pub returns-in-None : goal.returns-in-None
returns-in-None g c = record {
  reply = seated_reply c.args.self.now.seated c.args.line.now;
  gives = c.do_line.ensures.gives;
  counted = c.do_line.ensures.cost;
  goes_on = c.do_line.ensures.goes_on;
}
