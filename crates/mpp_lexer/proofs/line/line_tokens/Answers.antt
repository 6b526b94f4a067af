use Rattle.mpp_lexer.proofs.Steps.{spaces_go, then, then_spaces, whole_line, ends_there, comment_there}
use Rattle.mpp_lexer.proofs.line.line_tokens.Goals as goal
use Rattle.mpp_lexer.proofs.line.line_tokens.Goals.{then-loop-at-test+else-line-at-ne35, else-loop-at-test}

pub loop-at-init : goal.loop-at-init
loop-at-init c = record {
  within = c.spaces_end-at.ensures.within;
  no_space = c.spaces_end-at.ensures.stops;
  steps = rw c.new-tokens.ensures.items (spaces_go c.args.line.now 0 _ c.spaces_end-at.ensures);
}

pub loop-at-preserved : goal.loop-at-preserved
loop-at-preserved c =
    let line = c.args.line.now in
    let token = rw c.in-Some.is at c.in_ok-token.ensures.token in
    let on = then line 0 c.loop-at.at c.in-Some.end _ _ c.loop-at.invariant.steps token in
    record {
      within = c.spaces_end-at-in-loop-at.ensures.within;
      no_space = c.spaces_end-at-in-loop-at.ensures.stops;
      steps = rw c.in_ok-push.ensures.items (then_spaces line 0 c.in-Some.end _ _ on c.spaces_end-at-in-loop-at.ensures);
    }

pub returns : goal.returns
returns c = whole_line c.args.line.now c.loop-at.at _ c.loop-at.invariant.steps (elim c.loop-at-test.branch [
  | then-loop-at-test+else-line-at-ne35 w ↦ comment_there c.args.line.now c.loop-at.at w.loop-at-test.true w.if-line-at-ne35.false
  | else-loop-at-test w ↦ ends_there c.args.line.now c.loop-at.at w.loop-at-test.false
])
