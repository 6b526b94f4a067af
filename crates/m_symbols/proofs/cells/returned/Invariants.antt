use Rattle.std.proofs.Common.{◌≡◌, ◌<◌, take, length, All}
use Rattle.std.specs.List.{flat_map}
use Rattle.m_symbols.specs.Declarations.{owners_from}
use Rattle.m_symbols.specs.Cells.{returned_by}
use Rattle.m_symbols.proofs.cells.returned.Given as goal

abbrev pub invariant-loop-number : goal.invariant-loop-number
invariant-loop-number l = record {
  so_far : l.cells.items ≡ flat_map returned_by (take l.number l.symbols.variables);
  known : All (λ c. c < length (owners_from 0 l.symbols.variables)) l.cells.items;
}
