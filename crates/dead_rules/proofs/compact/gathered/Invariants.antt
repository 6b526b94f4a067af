use Rattle.dead_rules.specs.inner.Steps.{is_live}
use Rattle.dead_rules.proofs.KeptLemmas.{IsGathered}
use Rattle.dead_rules.proofs.compact.gathered.Given as goal

abbrev pub invariant-loop-i : goal.invariant-loop-i
invariant-loop-i l = IsGathered l.initial.nodes l.nodes (is_live l.live) l.i l.kept l.numbers.items
