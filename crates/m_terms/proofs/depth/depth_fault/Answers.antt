use Rattle.std.proofs.Common.{sym, ◌∙◌}
use Rattle.m_terms.proofs.DepthLaws.{shallow_turn, deep_turn, shallow_end}
use Rattle.m_terms.proofs.depth.depth_fault.Goals as goal

pub loop-token-preserved : goal.loop-token-preserved
loop-token-preserved c = record {
  shallow = c.if-depth-gt-BRACKET_DEPTH.false;
  same = rw c.behind-depth.ensures (sym (shallow_turn _ _ _ _ _ c.loop-token-test.true c.token-item.is
      (rw c.behind-depth.ensures at c.if-depth-gt-BRACKET_DEPTH.false)) ∙ c.loop-token.invariant.same);
}

pub returns-then-depth-gt-BRACKET_DEPTH : goal.returns-then-depth-gt-BRACKET_DEPTH
returns-then-depth-gt-BRACKET_DEPTH c =
    sym (deep_turn _ _ _ _ _ c.loop-token-test.true c.token-item.is (rw c.behind-depth.ensures at c.if-depth-gt-BRACKET_DEPTH.true))
    ∙ c.loop-token.invariant.same

pub returns : goal.returns
returns c = sym (shallow_end _ _ _ _ c.loop-token-test.false) ∙ c.loop-token.invariant.same
