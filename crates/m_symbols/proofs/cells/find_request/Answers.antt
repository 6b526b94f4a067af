use Rattle.std.proofs.Common.{None, Some, take, drop, length, ◌+◌, ◌-◌}
use Rattle.m_symbols.proofs.Placing.{span_fits, span_known}
use Rattle.m_symbols.proofs.cells.find_request.Goals as goal

pub cell_at_index-requires : goal.cell_at_index-requires
cell_at_index-requires c = span_fits c.args.symbols.now _ _ _ _ c.requires c.variable.ensures c.span_of-span.ensures c.cells.ensures

pub returns-then-at-text-clause-known : goal.returns-then-at-text-clause-known
returns-then-at-text-clause-known c = span_known c.args.symbols.now _ _ _ None _ c.requires c.variable.ensures c.span_of-span.ensures
    c.cell_without_index.ensures

pub returns-else-at-text-clause-known : goal.returns-else-at-text-clause-known
returns-else-at-text-clause-known c = span_known c.args.symbols.now _ _ _
    (Some (take (length c.args.text.now - (c.first_of-at.result + 1)) (drop (c.first_of-at.result + 1) c.args.text.now))) _ c.requires
    c.variable.ensures c.span_of-span.ensures c.cell_at_index.ensures
