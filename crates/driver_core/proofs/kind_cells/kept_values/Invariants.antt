use Rattle.std.proofs.Common.{◌≡◌, ◌≤◌, ℕ, ℤ, length, drop}
use Rattle.std.specs.Prelude.{min}
use Rattle.std.specs.BTreeSet.{contains}
use Rattle.std.specs.List.{list_any}
use Rattle.std.specs.Ordering.{int_cmp, int_eq}
use Rattle.driver_core.specs.Ascending.{times}
use Rattle.driver_core.specs.Groups.{joined, groups_at}
use Rattle.driver_core.proofs.kind_cells.kept_values.Given as goal

abbrev pub invariant-loop-left : goal.invariant-loop-left
invariant-loop-left l = record {
  within : l.left ≤ length l.values;
  seen : (v : ℤ) → contains int_cmp l.seen v ≡ list_any (int_eq v) (drop l.left l.values);
  kept : (cell : ℕ) → times cell (joined l.index l.attribute l.kept.items) ≡ times cell (groups_at l.index l.attribute (drop l.left l.values));
  count : l.count ≡ min (length (joined l.index l.attribute l.kept.items)) 18_446_744_073_709_551_615;
}

abbrev pub decreases-loop-left : goal.decreases-loop-left
decreases-loop-left l = l.left
