use Rattle.std.proofs.Common.{◌≡◌, map, take}
use Rattle.dead_rules.specs.inner.Steps.{look}
use Rattle.dead_rules.proofs.moved.moved_outputs.Given as goal

abbrev pub invariant-loop-output : goal.invariant-loop-output
invariant-loop-output l = l.new.items ≡ map (look l.numbers) (take l.output-index l.outputs)
