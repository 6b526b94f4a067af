use Rattle.std.proofs.Common.{◌≡◌, refl, arith}
use Rattle.household_session.proofs.TurnLemmas.{standing_full, standing_none, standing_stopped, standing_turn}
use Rattle.household_session.proofs.turns.serve_in.Goals as goal

pub loop-taken-init : goal.loop-taken-init
loop-taken-init g c = record { bound = omega arith; few = omega arith; standing = standing_none _ _ _ _ _ _ _ _ }

pub loop-taken-preserved : goal.loop-taken-preserved
loop-taken-preserved g c =
    let took = c.in-Ok.ensures.1 in
    record {
      bound = omega (arith, took.few);
      few = c.in-Ok.ensures.0;
      standing = standing_turn _ _ _ _ _ _ _ _ _ _ _ _ _ _ _ _ _ _ _ _ _ _ c.loop-taken.invariant.standing took refl;
    }

pub returns-in-Err : goal.returns-in-Err
returns-in-Err g c =
    let both = standing_stopped g.S.Source.left g.S.Source.faults g.K.Sink.written g.K.Sink.faults c.args.input.now c.loop-taken.input c.turn.new.input
    c.args.out.now c.loop-taken.out
    c.turn.new.out c.args.steps.now c.loop-taken.steps c.turn.new.steps (g.R.Replier.replies c.args.replier.now)
    (g.R.Replier.replies c.loop-taken.replier) _ c.loop-taken.taken _ c.in-Err.end
    (g.met.R.Replier.nothing c.loop-taken.replier) c.loop-taken.invariant.standing c.in-Err.ensures c.loop-taken-test.true
    (omega (arith, c.loop-taken-test.true)) in
    record { end = both.0; counts = both.1 }

pub returns : goal.returns
returns g c =
    let full : c.loop-taken.taken ≡ 1099511627776 = omega arith in
    let both = standing_full _ _ _ _ _ _ _ _ _ _ _ _ _ _ (g.met.R.Replier.nothing c.loop-taken.replier) c.loop-taken.invariant.standing full in
    record { end = both.0; counts = both.1 }
