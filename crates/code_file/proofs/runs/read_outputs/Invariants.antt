use Rattle.std.proofs.Common.{◌≡◌, ◌++◌, length, true}
use Rattle.std.specs.List.{AllByRecursion, flat_map}
use Rattle.observables.specs.Outputs.{notes_stand_first}
use Rattle.code_file.specs.Text.{output_line}
use Rattle.code_file.specs.inner.Faces.{IsRightOutput, ends_named}
use Rattle.code_file.proofs.runs.read_outputs.Given as goal

abbrev pub invariant-loop-outputs : goal.invariant-loop-outputs
invariant-loop-outputs l = record {
  whole : l.text ≡ flat_map output_line l.outputs.items ++ l.rest;
  right : AllByRecursion IsRightOutput l.outputs.items;
  first : notes_stand_first l.labels l.outputs.items ≡ true;
  named : l.named ≡ ends_named l.outputs.items;
}

abbrev pub decreases-loop-outputs : goal.decreases-loop-outputs
decreases-loop-outputs l = length l.rest
