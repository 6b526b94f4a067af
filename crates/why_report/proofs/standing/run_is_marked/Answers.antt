use Rattle.std.proofs.Common.{sym}
use Rattle.why_report.proofs.StandingLemmas.{knows-more, run-all}
use Rattle.why_report.proofs.standing.run_is_marked.Goals as goal

pub returns-then-size-known-clause-knows : goal.returns-then-size-known-clause-knows
returns-then-size-known-clause-knows c =
    knows-more c.args.marks.now c.args.known.now c.args.first c.args.size c.requires.knows
    (run-all c.args.marks.now c.args.first c.args.size (sym c.if-not-rest_is_marked.ensures))
