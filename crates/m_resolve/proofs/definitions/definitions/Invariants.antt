use Rattle.std.proofs.Common.{◌≡◌, [], drop, length}
use Rattle.m_symbols.specs.Declarations.{owners_from}
use Rattle.m_resolve.specs.Bases.{resolved_definitions, cells_of}
use Rattle.m_resolve.specs.inner.Marks.{Marks}
use Rattle.m_resolve.proofs.definitions.definitions.Given as goal

abbrev pub invariant-loop-one : goal.invariant-loop-one
invariant-loop-one l = record {
  same : resolved_definitions l.symbols l.made.items (drop l.one-index l.all) ≡ resolved_definitions l.symbols [] l.all;
  marks : Marks l.marked.items (cells_of l.made.items);
  counted : length l.marked.items ≡ length (owners_from 0 l.symbols.variables);
}
