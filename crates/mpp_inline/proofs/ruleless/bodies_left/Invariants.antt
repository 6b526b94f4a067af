use Rattle.std.proofs.Common.{◌≡◌, take}
use Rattle.mpp_inline.specs.inner.Ruleless.{left_in}
use Rattle.mpp_inline.proofs.ruleless.bodies_left.Given as goal

abbrev pub invariant-loop-body : goal.invariant-loop-body
invariant-loop-body l = l.made.items ≡ left_in (take l.body-index l.bodies)
