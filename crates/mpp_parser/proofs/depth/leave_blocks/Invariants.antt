use Rattle.std.proofs.Common.{◌≡◌, length}
use Rattle.mpp_parser.specs.inner.Outers.{left_outers}
use Rattle.mpp_parser.proofs.depth.leave_blocks.Given as goal

abbrev pub invariant-indents : goal.invariant-indents
invariant-indents l = left_outers l.indent l.outers.items ≡ left_outers l.indent l.fn.outers.items

abbrev pub decreases-indents : goal.decreases-indents
decreases-indents l = length l.outers.items
