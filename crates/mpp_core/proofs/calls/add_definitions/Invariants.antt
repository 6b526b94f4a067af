use Rattle.std.proofs.Common.{◌≡◌, ◌++◌, drop}
use Rattle.mpp_core.specs.inner.Calls.{calls_from}
use Rattle.mpp_core.proofs.calls.add_definitions.Given as goal

abbrev pub invariant-loop-f : goal.invariant-loop-f
invariant-loop-f l = l.definitions.items ++ calls_from l.f (drop l.f l.bodies) ≡ l.initial.definitions.items ++ calls_from 0 l.bodies
