use Rattle.std.proofs.Common.{◌≡◌, ◌≤◌, ◌+◌, drop, length}
use Rattle.observables.specs.Outputs.{notes_of}
use Rattle.m_cases.proofs.cases.count_notes.Given as goal

abbrev pub invariant-loop-output : goal.invariant-loop-output
invariant-loop-output l = record {
  counted : l.count + length (notes_of (drop l.output-index l.outputs)) ≡ length (notes_of l.outputs);
  within : l.count ≤ l.output-index;
}
