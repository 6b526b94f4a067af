use Rattle.std.proofs.Common.{false, arith}
use Rattle.flat_code.specs.declared.program.Check.{Check}
use Rattle.register_alloc.proofs.LiveLemmas.{moment-reads}
use Rattle.register_alloc.proofs.task.ready.Goals as goal

pub returns-else-guard-at-clause-none : goal.returns-else-guard-at-clause-none
returns-else-guard-at-clause-none c = λ lt.
    let none : Check = record { guard = 0; condition = 0; over_only = false; label = 0 } in
    let reads = moment-reads 0 c.args.flat.now.checks c.args.at.checked none lt in
    let either = rw c.as_slice-checks.ensures at c.else-guard-at.either in
    omega arith
