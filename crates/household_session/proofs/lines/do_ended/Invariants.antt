use Rattle.std.proofs.Common.{◌≢◌, ◌-◌, length, drop}
use Rattle.m_text.specs.Bytes.{RunsTo, line_feed}
use Rattle.household_session.specs.inner.Going.{Goes}
use Rattle.household_session.proofs.lines.do_ended.Given as goal

abbrev pub invariant-loop-end : goal.invariant-loop-end
invariant-loop-end g l = record {
  runs : RunsTo (λ b. b ≢ line_feed) l.bytes l.from l.end;
  goes : Goes g.K.Sink.written g.K.Sink.faults l.initial.out l.out l.initial.steps l.steps (g.R.Replier.replies l.initial.replier)
      (g.R.Replier.replies l.replier) l.bytes
      (drop l.from l.bytes);
}

abbrev pub decreases-loop-end : goal.decreases-loop-end
decreases-loop-end g l = length l.bytes - l.end
