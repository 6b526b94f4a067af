use Rattle.std.proofs.Common.{◌≡◌, ◌+◌, ◌*◌, length, take}
use Rattle.std.specs.List.{flat_map}
use Rattle.loop_values.specs.Headers.{instances}
use Rattle.loop_values.specs.Letters.{bind}
use Rattle.index_expand.specs.Expansion.{definitions_at}
use Rattle.index_expand.specs.inner.Taken.{IsTaken, weighed}
use Rattle.index_expand.proofs.formulas.+take_instances.Given as goal

abbrev pub decreases-take_instances : goal.decreases-take_instances
decreases-take_instances l = 3 * length l.indexes.now + 1

abbrev pub decreases-take_index : goal.decreases-take_index
decreases-take_index l = 3 * length l.indexes.now + 3

abbrev pub decreases-take_single : goal.decreases-take_single
decreases-take_single l = 3 * length l.indexes.now + 3

abbrev pub decreases-take_bound : goal.decreases-take_bound
decreases-take_bound l = 3 * length l.indexes.now + 2

abbrev pub invariant-take_index-loop-value : goal.invariant-take_index-loop-value
invariant-take_index-loop-value l = record {
  letters : l.letters ≡ l.initial.letters;
  taken : let these = flat_map (definitions_at l.template.symbols.now l.template.formula.now l.template.formula.now.slot)
      (flat_map (λ value. instances l.indexes (bind l.initial.letters l.index.letter value)) (take l.value-index l.value-items)) in
      IsTaken l.initial.definitions.items l.definitions.items these (weighed these l.template.weight) l.total l.count;
}
