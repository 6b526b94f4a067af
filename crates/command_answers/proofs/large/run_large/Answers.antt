use Rattle.command_plans.specs.Printing.{no_memory}
use Rattle.std.proofs.Common.{refl}
use Rattle.command_answers.proofs.LargeLemmas.{large_answered, reads_large, without_code_only}
use Rattle.command_answers.proofs.LargeLimits.{large_within}
use Rattle.command_answers.proofs.large.run_large.Goals as goal

pub prepare_code-requires-clause-limits : goal.prepare_code-requires-clause-limits
prepare_code-requires-clause-limits g c = λ κs held. rw c.in-Ok.ensures (large_within c.args.n c.requires.some c.requires.few)

pub answer_large-requires-clause-reads : goal.answer_large-requires-clause-reads
answer_large-requires-clause-reads g c = reads_large c.args.n c.requires.some c.requires.few c.in-Ok-prepare_code.loaded
    (rw c.in-Ok.ensures at c.in-Ok-prepare_code.ensures.outcome)

pub returns-in-Ok-prepare_code : goal.returns-in-Ok-prepare_code
returns-in-Ok-prepare_code g c =
    let is = rw c.in-Ok.ensures at c.in-Ok-prepare_code.ensures.outcome in
    large_answered c.args.n c.requires.some c.requires.few c.in-Ok-prepare_code.loaded _ _ _ is (c.answer_large.ensures is.scheme is.shows)

pub without_code-requires : goal.without_code-requires
without_code-requires g c = without_code_only c.args.n c.requires.some c.requires.few c.in-Err.fault (rw c.in-Ok.ensures at c.in-Err.ensures.outcome)

pub returns : goal.returns
returns g c = no_memory refl c.without_code.ensures
