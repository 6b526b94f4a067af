use Rattle.std.proofs.Common.{List, get_or, ap, ◌∙◌}
use Rattle.m_symbols.specs.declared.spans.Span.{Span}
use Rattle.m_symbols.specs.Spans.{span_of}
use Rattle.why_report.proofs.NameLemmas.{mapped-at, span-fits}
use Rattle.why_report.proofs.cell_names.CellNames.span.Goals as goal

pub returns-clause-fits : goal.returns-clause-fits
returns-clause-fits c =
    let there = rw (← c.self.view_is) at c.requires in
    let declared = c.self.inside.declared.value in
    let at = c.index.ensures ∙ ap (λ (l : List Span). get_or l c.args.v c.index.result.now) c.self.invariant.spanned in
    rw (← c.self.view_is) (span-fits declared c.args.v c.index.result.now c.self.invariant.placed
    (mapped-at span_of declared.variables c.args.v c.index.result.now there at))
