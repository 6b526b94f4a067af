use Rattle.std.proofs.Common.{◌≡◌, ◌++◌, List, length, drop, take}
use Rattle.m_ast.specs.declared.header.Index.{Index}
use Rattle.loop_values.specs.Headers.{instances}
use Rattle.loop_values.specs.inner.Singles.{unbound}
use Rattle.loop_values.proofs.single.bind_singles.Given as goal

abbrev pub invariant-loop-index : goal.invariant-loop-index
invariant-loop-index l = record {
  wide : length l.letters ≡ 256;
  front : (rest : List Index) → instances (drop l.index-index l.indexes ++ rest) l.letters ≡ instances (l.indexes ++ rest) l.initial.letters;
  as_many : length l.outer.items ≡ l.index-index;
  inner : unbound (take l.index-index l.indexes) l.outer.items l.letters ≡ l.initial.letters;
}
