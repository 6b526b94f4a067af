use Rattle.m_batch.specs.Batch.{answers_of}
use Rattle.m_batch.proofs.PrintLemmas.{each_may}
use Rattle.code_tests.proofs.two_threads.are_printed.Goals as goal

pub print_batch-requires-clause-may : goal.print_batch-requires-clause-may
print_batch-requires-clause-may g c = λ κs held.
    each_may (λ at row answer. Unit {0}) (λ at row answer. tt) 0 c.args.rows.now (answers_of c.args.code.now c.args.rows.now)
