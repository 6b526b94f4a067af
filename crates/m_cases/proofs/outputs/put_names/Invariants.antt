use Rattle.std.proofs.Common.{◌≡◌, ◌≤◌, length, take}
use Rattle.observables.specs.Outputs.{names_of}
use Rattle.m_cases.specs.inner.Outputs.{Finds}
use Rattle.m_cases.proofs.outputs.put_names.Given as goal

abbrev pub invariant-loop-output : goal.invariant-loop-output
invariant-loop-output l = record {
  finds : Finds (names_of (take l.output-index l.outputs)) l.known l.places.items;
  place : length (names_of (take l.output-index l.outputs)) ≡ l.place;
  within : l.place ≤ l.output-index;
}
