use Rattle.std.proofs.Common.{◌∙◌, sym, ap}
use Rattle.code_file.specs.Text.{output_line}
use Rattle.code_file.specs.inner.Faces.{IsRightOutput, may_follow}
use Rattle.code_file.proofs.FrontLemmas.{lines-push, all-push}
use Rattle.code_file.proofs.RunLemmas.{follows, not-follows, ends-push}
use Rattle.code_file.proofs.runs.read_outputs.Goals as goal

pub returns-then-not-may_follow : goal.returns-then-not-may_follow
returns-then-not-may_follow c = record {
  whole = c.loop-outputs.invariant.whole;
  right = c.loop-outputs.invariant.right;
  first = c.loop-outputs.invariant.first;
  ends = not-follows c.args.labels.now c.loop-outputs.outputs.items c.in-Some.output c.loop-outputs.rest.now c.in-Some.behind.now c.loop-outputs.named
      c.loop-outputs.invariant.first c.loop-outputs.invariant.named
      (rw c.in-Some.is at c.in_ok-next_output.ensures) (sym c.may_follow.ensures ∙ c.if-not-may_follow.true);
}

pub loop-outputs-preserved : goal.loop-outputs-preserved
loop-outputs-preserved c =
    let front = rw c.in-Some.is at c.in_ok-next_output.ensures in
    record {
      whole = rw c.in_ok-push-in-Some.ensures.items (lines-push output_line c.args.text.now c.loop-outputs.rest.now c.in-Some.behind.now
          c.loop-outputs.outputs.items c.in-Some.output c.loop-outputs.invariant.whole front.0);
      right = rw c.in_ok-push-in-Some.ensures.items (all-push IsRightOutput c.loop-outputs.outputs.items c.in-Some.output c.loop-outputs.invariant.right
          front.1);
      first = rw c.in_ok-push-in-Some.ensures.items (follows c.args.labels.now c.loop-outputs.outputs.items c.in-Some.output c.loop-outputs.invariant.first
          ∙ ap (λ b. may_follow c.args.labels.now b c.in-Some.output) (sym c.loop-outputs.invariant.named) ∙ sym c.may_follow.ensures
          ∙ c.if-not-may_follow.false);
      named = rw c.in_ok-push-in-Some.ensures.items (c.is_name-named.ensures ∙ sym (ends-push c.loop-outputs.outputs.items c.in-Some.output));
    }
