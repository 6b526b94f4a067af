use Rattle.std.proofs.Common.{arith}
use Rattle.micro_m.specs.Values.{environment}
use Rattle.why_report.proofs.ListLemmas.{reported-few}
use Rattle.why_report.proofs.check.first_unsound.Goals as goal

pub overflow_cast-result : goal.overflow_cast-result
overflow_cast-result c =
    let few = reported-few c.args.base.now (environment c.args.env.now) c.args.lines.now c.loop-position.position c.loop-position.invariant.1
    (omega (arith, c.loop-position-test.true)) c.requires.cells in
    omega arith
