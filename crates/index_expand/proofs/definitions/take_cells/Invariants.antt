use Rattle.std.proofs.Common.{◌≡◌, map}
use Rattle.std.specs.List.{range_with_len}
use Rattle.index_expand.specs.Expansion.{defined_cell}
use Rattle.index_expand.specs.inner.Taken.{IsTaken, weighed}
use Rattle.index_expand.proofs.definitions.take_cells.Given as goal

abbrev pub invariant-loop-k : goal.invariant-loop-k
invariant-loop-k l = record {
  letters : l.letters ≡ l.initial.letters;
  taken : let these = map (defined_cell l.template.formula.now l.initial.letters) (range_with_len 0 l.k) in
      IsTaken l.initial.definitions.items l.definitions.items these (weighed these l.template.weight) l.total l.count;
}
