use Rattle.std.proofs.Common.{ℕ, ◌<◌, []}
use Rattle.micro_m.specs.Bases.{target_at}
use Rattle.rule_order.specs.inner.Marks.{IsSettled, Walks}
use Rattle.rule_order.proofs.search.sequence_of.Given as goal

abbrev pub invariant-loop-position : goal.invariant-loop-position
invariant-loop-position l = Walks l.base l.search [] × ((p : ℕ) → p < l.position → IsSettled l.search.marks.items (target_at l.base p))
