use Rattle.std.proofs.Common.{◌≡◌, ◌≤◌, ◌++◌, drop}
use Rattle.std.specs.Prelude.{filter}
use Rattle.std.specs.List.{flat_map}
use Rattle.m_places.specs.declared.limits.TheConstants.{PARTS}
use Rattle.index_expand.specs.Expansion.{counts_in, item_definitions, item_conditions}
use Rattle.index_expand.specs.Faults.{too_many}
use Rattle.index_expand.proofs.items.take_each.Given as goal

abbrev pub invariant-loop-item : goal.invariant-loop-item
invariant-loop-item l = record {
  few : l.count ≤ PARTS;
  letters : l.letters ≡ l.initial.letters;
  definitions : l.definitions.items ++ flat_map (item_definitions l.symbols) (filter (counts_in l.application) (drop l.item-index l.items))
      ≡ l.initial.definitions.items ++ flat_map (item_definitions l.symbols) (filter (counts_in l.application) l.items);
  conditions : l.conditions.items ++ flat_map item_conditions (filter (counts_in l.application) (drop l.item-index l.items))
      ≡ l.initial.conditions.items ++ flat_map item_conditions (filter (counts_in l.application) l.items);
  left : too_many l.symbols l.count (filter (counts_in l.application) (drop l.item-index l.items)) ≡ too_many l.symbols 0
      (filter (counts_in l.application) l.items);
}
