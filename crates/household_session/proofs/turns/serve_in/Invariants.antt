use Rattle.std.proofs.Common.{◌≤◌, ◌-◌, take}
use Rattle.household_session.proofs.TurnLemmas.{Standing}
use Rattle.household_session.proofs.turns.serve_in.Given as goal

abbrev pub invariant-loop-taken : goal.invariant-loop-taken
invariant-loop-taken g l = record {
  bound : l.taken ≤ 1099511627776;
  few : l.held ≤ 4097;
  standing : Standing g.S.Source.left g.S.Source.faults g.K.Sink.written g.K.Sink.faults l.initial.input l.input l.initial.out l.out l.initial.steps l.steps
      (g.R.Replier.replies l.initial.replier) (g.R.Replier.replies l.replier)
      (take l.held l.room) l.taken;
}

abbrev pub decreases-loop-taken : goal.decreases-loop-taken
decreases-loop-taken g l = 1099511627776 - l.taken
