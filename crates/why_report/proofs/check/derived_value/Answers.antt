use Rattle.std.proofs.Common.{sym}
use Rattle.why_report.proofs.CheckLemmas.{term-within}
use Rattle.why_report.proofs.check.derived_value.Goals as goal

pub term_is_marked-requires-clause-within : goal.term_is_marked-requires-clause-within
term_is_marked-requires-clause-within c =
    term-within c.args.base.now c.args.cell _ c.in-Some.term.now c.requires.valid (sym c.in-Some.ensures) c.requires.marks_size
