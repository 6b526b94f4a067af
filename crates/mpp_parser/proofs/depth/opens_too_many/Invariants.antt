use Rattle.std.proofs.Common.{◌≡◌, ◌≤◌, length}
use Rattle.m_places.specs.declared.limits.TheConstants.{BRACKET_DEPTH}
use Rattle.mpp_parser.specs.Depths.{opens_too_many}
use Rattle.mpp_parser.proofs.depth.opens_too_many.Given as goal

abbrev pub invariant-loop-token : goal.invariant-loop-token
invariant-loop-token l = record {
  small : l.brackets ≤ BRACKET_DEPTH;
  same : opens_too_many l.brackets l.left ≡ opens_too_many 0 l.fn.tokens;
}

abbrev pub decreases-loop-token : goal.decreases-loop-token
decreases-loop-token l = length l.left
