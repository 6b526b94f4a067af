use Rattle.std.proofs.Common.{◌≤◌}
use Rattle.std.specs.List.{sum_by}
use Rattle.micro_m.specs.Bases.{target_at}
use Rattle.rule_order.specs.inner.Marks.{mark_of, steps_left, HasAdvanced, Walks}
use Rattle.rule_order.proofs.search.Search.place.Given as goal

abbrev pub decreases-loop-frame : goal.decreases-loop-frame
decreases-loop-frame l = sum_by steps_left l.self.marks.items

abbrev pub invariant-loop-frame : goal.invariant-loop-frame
invariant-loop-frame l =
    Walks l.base l.self l.path.items
    × HasAdvanced l.fn.self.marks.items l.self.marks.items
    × (steps_left (mark_of l.self.marks.items (target_at l.base l.position)) ≤ 1)
