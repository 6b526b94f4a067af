use Rattle.std.proofs.Common.{◌≡◌, map, take}
use Rattle.flat_code.specs.inner.Renumber.{moved}
use Rattle.dead_rules.specs.inner.Steps.{look}
use Rattle.dead_rules.proofs.moved.moved_checks.Given as goal

abbrev pub invariant-loop-check : goal.invariant-loop-check
invariant-loop-check l = l.new.items ≡ map (moved (look l.numbers)) (take l.check-index l.checks)
