use Rattle.code_file.specs.Text.{input_line}
use Rattle.code_file.specs.inner.Faces.{IsRightInput}
use Rattle.code_file.proofs.FrontLemmas.{lines-push, all-push}
use Rattle.code_file.proofs.runs.read_inputs.Goals as goal

pub loop-inputs-preserved : goal.loop-inputs-preserved
loop-inputs-preserved c =
    let front = rw c.in-Some.is at c.in_ok-next_input.ensures in
    record {
      whole = rw c.in_ok-push-in-Some.ensures.items (lines-push input_line c.args.text.now c.loop-inputs.rest.now c.in-Some.behind.now
          c.loop-inputs.inputs.items c.in-Some.input c.loop-inputs.invariant.whole front.0);
      right = rw c.in_ok-push-in-Some.ensures.items (all-push IsRightInput c.loop-inputs.inputs.items c.in-Some.input c.loop-inputs.invariant.right front.1);
    }
