use Rattle.std.proofs.Common.{◌≡◌, drop, None}
use Rattle.std.specs.Prelude.{filter}
use Rattle.std.specs.List.{flat_map}
use Rattle.index_expand.specs.Expansion.{counts_in}
use Rattle.index_expand.specs.LoopFaults.{least, item_faults}
use Rattle.index_expand.proofs.items.first_fault.Given as goal

abbrev pub invariant-loop-item : goal.invariant-loop-item
invariant-loop-item l = least l.first (flat_map item_faults (filter (counts_in l.application) (drop l.item-index l.items))) ≡ least None
    (flat_map item_faults (filter (counts_in l.application) l.items))
