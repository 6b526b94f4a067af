use Rattle.code_file.specs.Text.{label_line}
use Rattle.code_file.specs.inner.Faces.{IsRightLabel}
use Rattle.code_file.proofs.FrontLemmas.{lines-push, all-push}
use Rattle.code_file.proofs.runs.read_labels.Goals as goal

pub loop-labels-preserved : goal.loop-labels-preserved
loop-labels-preserved c =
    let front = rw c.in-Some.is at c.in_ok-next_label.ensures in
    record {
      whole = rw c.in_ok-push-in-Some.ensures.items (lines-push label_line c.args.text.now c.loop-labels.rest.now c.in-Some.behind.now
          c.loop-labels.labels.items c.in-Some.label c.loop-labels.invariant.whole front.0);
      right = rw c.in_ok-push-in-Some.ensures.items (all-push IsRightLabel c.loop-labels.labels.items c.in-Some.label c.loop-labels.invariant.right front.1);
    }
