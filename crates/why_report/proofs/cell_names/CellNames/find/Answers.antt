use Rattle.std.proofs.Common.{None, Some, take, drop, length, ◌+◌, ◌-◌, subst}
use Rattle.m_symbols.specs.Placed.{IsPlaced}
use Rattle.why_report.proofs.NameLemmas.{span-known}
use Rattle.why_report.proofs.cell_names.CellNames.find.Goals as goal

pub returns-then-at-text-clause-known : goal.returns-then-at-text-clause-known
returns-then-at-text-clause-known c = span-known c.args.self.now _ c.span-span.result None _ (subst IsPlaced c.self.view_is c.self.invariant.placed)
    c.span-span.ensures.span c.cell_without_index.ensures

pub returns-else-at-text-clause-known : goal.returns-else-at-text-clause-known
returns-else-at-text-clause-known c = span-known c.args.self.now _ c.span-span.result
    (Some (take (length c.args.text.now - (c.first_of-at.result + 1)) (drop (c.first_of-at.result + 1) c.args.text.now))) _
    (subst IsPlaced c.self.view_is c.self.invariant.placed) c.span-span.ensures.span c.cell_at_index.ensures
