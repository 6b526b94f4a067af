use Rattle.std.proofs.Common.{◌≡◌, true, drop}
use Rattle.micro_m.specs.Bases.{is_among}
use Rattle.rule_order.specs.inner.Marks.{cells_of}
use Rattle.rule_order.proofs.cycle.place_of.Given as goal

abbrev pub invariant-loop-place : goal.invariant-loop-place
invariant-loop-place l = is_among l.cell (cells_of (drop l.place l.path)) ≡ true
