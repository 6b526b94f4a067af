use Rattle.std.proofs.Common.{◌≤◌, ◌-◌, drop, length}
use Rattle.m_ports.proofs.GivingLemmas.{Given}
use Rattle.m_ports.proofs.buffered.give_from.Given as goal

abbrev pub invariant-loop-given : goal.invariant-loop-given
invariant-loop-given g l = record {
  within : l.given ≤ length l.text;
  gives : Given g.K.Sink.written g.K.Sink.faults l.initial.out l.out (drop l.initial.given l.text) (drop l.given l.text);
}

abbrev pub decreases-loop-given : goal.decreases-loop-given
decreases-loop-given g l = length l.text - l.given
