use Rattle.std.proofs.Common.{[], ◌∷◌, ◌++◌, ap, ◌∙◌, arith}
use Rattle.m_symbols.specs.Spans.{span_of}
use Rattle.m_symbols.specs.declared.spans.Span.{Span}
use Rattle.why_report.proofs.NameLemmas.{mapped-more}
use Rattle.why_report.proofs.cell_names.spans_in.Goals as goal

pub loop-number-preserved : goal.loop-number-preserved
loop-number-preserved c =
    mapped-more span_of c.args.symbols.now.variables c.loop-number.number c.variable.result.now c.loop-number.spans.items _
    (omega (arith, c.loop-number-test.true, c.loop-number.auto.number-end, c.count-number-end.ensures)) c.variable.ensures c.loop-number.invariant
    (c.in_ok-push.ensures.items ∙ ap (λ (x : Span). c.loop-number.spans.items ++ x ∷ []) c.span_of.ensures)
