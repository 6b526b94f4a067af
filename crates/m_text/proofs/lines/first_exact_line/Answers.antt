use Rattle.std.proofs.Common.{arith, sym, ◌∙◌}
use Rattle.m_text.proofs.LineLemmas.{exact-cut, exact-whole, feed_place-from_run}
use Rattle.m_text.proofs.lines.first_exact_line.Goals as goal

pub returns-then-end-bytes-clause-first : goal.returns-then-end-bytes-clause-first
returns-then-end-bytes-clause-first c =
    exact-whole c.args.bytes.now c.line_end-end.result c.if-end-bytes.true (feed_place-from_run c.args.bytes.now c.line_end-end.result c.line_end-end.ensures)
    (sym c.is_empty.ensures ∙ c.if-is_empty.false)

pub returns-clause-first : goal.returns-clause-first
returns-clause-first c =
    exact-cut c.args.bytes.now c.line_end-end.result (feed_place-from_run c.args.bytes.now c.line_end-end.result c.line_end-end.ensures) (omega arith)
