use Rattle.std.proofs.Common.{ℕ, ◌<◌, ◌≤◌, length, get_or}
use Rattle.rule_order.specs.inner.Marks.{cells_of}
use Rattle.rule_order.proofs.cycle.place_of_least.Given as goal

abbrev pub invariant-loop-place : goal.invariant-loop-place
invariant-loop-place l = (l.least < length l.ring) × ((k : ℕ) → k < l.place → get_or (cells_of l.ring) l.least 0 ≤ get_or (cells_of l.ring) k 0)
