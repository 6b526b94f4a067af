use Rattle.std.proofs.Common.{◌+◌, sym, arith}
use Rattle.why_report.proofs.StandingLemmas.{run-not, all-run}
use Rattle.why_report.proofs.standing.rest_is_marked.Goals as goal

pub returns-then-not-marks-first : goal.returns-then-not-marks-first
returns-then-not-marks-first c =
    sym (run-not c.args.marks.now c.args.first c.args.size (c.args.first + c.loop-passed.passed) (omega arith) (omega (arith, c.loop-passed-test.true))
    c.if-not-marks-first.true)

pub returns : goal.returns
returns c =
    sym (all-run c.args.marks.now c.args.first c.args.size (λ x low high. c.loop-passed.invariant x low (omega (arith, c.loop-passed-test.false))))
