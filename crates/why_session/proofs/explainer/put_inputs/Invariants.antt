use Rattle.std.proofs.Common.{◌≡◌, ◌≤◌, ◌-◌, length, take}
use Rattle.m_symbols.specs.Declarations.{Declared}
use Rattle.why_report.specs.Starts.{IsStart}
use Rattle.why_session.proofs.explainer.put_inputs.Given as goal

abbrev pub invariant-loop-input : goal.invariant-loop-input
invariant-loop-input l = record {
  low : l.input ≤ l.count;
  long : length l.reporter.inputs ≡ length l.initial.reporter.inputs;
  put : take l.input l.reporter.inputs ≡ take l.input l.session.sitting.values;
  ordered : l.reporter.ordered ≡ l.initial.reporter.ordered;
  start : (declared : Declared) → IsStart declared l.initial.reporter → IsStart declared l.reporter;
}

abbrev pub decreases-loop-input : goal.decreases-loop-input
decreases-loop-input l = l.count - l.input
