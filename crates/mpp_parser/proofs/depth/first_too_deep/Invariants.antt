use Rattle.std.proofs.Common.{length}
use Rattle.mpp_parser.proofs.OuterLaws.{Walked}
use Rattle.mpp_parser.proofs.depth.first_too_deep.Given as goal

abbrev pub invariant-loop-line : goal.invariant-loop-line
invariant-loop-line l = Walked l.fn.lines l.outers.items l.left

abbrev pub decreases-loop-line : goal.decreases-loop-line
decreases-loop-line l = length l.left
