use Rattle.std.proofs.Common.{◌≡◌, ◌≤◌, drop}
use Rattle.m_places.specs.declared.limits.TheConstants.{BRACKET_DEPTH}
use Rattle.m_terms.specs.Depth.{first_too_deep}
use Rattle.m_terms.proofs.depth.depth_fault.Given as goal

abbrev pub invariant-loop-token : goal.invariant-loop-token
invariant-loop-token l = record {
  shallow : l.depth ≤ BRACKET_DEPTH;
  same : first_too_deep BRACKET_DEPTH l.depth (drop l.token-index l.tokens) ≡ first_too_deep BRACKET_DEPTH 0 l.tokens;
}
