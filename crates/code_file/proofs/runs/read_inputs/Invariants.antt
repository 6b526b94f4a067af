use Rattle.std.proofs.Common.{◌≡◌, ◌++◌, length}
use Rattle.std.specs.List.{AllByRecursion, flat_map}
use Rattle.code_file.specs.Text.{input_line}
use Rattle.code_file.specs.inner.Faces.{IsRightInput}
use Rattle.code_file.proofs.runs.read_inputs.Given as goal

abbrev pub invariant-loop-inputs : goal.invariant-loop-inputs
invariant-loop-inputs l = record {
  whole : l.text ≡ flat_map input_line l.inputs.items ++ l.rest;
  right : AllByRecursion IsRightInput l.inputs.items;
}

abbrev pub decreases-loop-inputs : goal.decreases-loop-inputs
decreases-loop-inputs l = length l.rest
