use Rattle.std.proofs.Common.{◌≡◌, ◌++◌, length}
use Rattle.std.specs.List.{AllByRecursion, flat_map}
use Rattle.code_file.specs.Text.{label_line}
use Rattle.code_file.specs.inner.Faces.{IsRightLabel}
use Rattle.code_file.proofs.runs.read_labels.Given as goal

abbrev pub invariant-loop-labels : goal.invariant-loop-labels
invariant-loop-labels l = record {
  whole : l.text ≡ flat_map label_line l.labels.items ++ l.rest;
  right : AllByRecursion IsRightLabel l.labels.items;
}

abbrev pub decreases-loop-labels : goal.decreases-loop-labels
decreases-loop-labels l = length l.rest
