use Rattle.std.proofs.Common.{refl}
use Rattle.m_commands.proofs.answer.answer.Goals as goal

pub returns-in-Run : goal.returns-in-Run
returns-in-Run g c = rw c.in-Run.is (refl, rw c.as_slice.ensures at c.run_source.ensures)

pub returns-in-Serve : goal.returns-in-Serve
returns-in-Serve g c = rw c.in-Serve.is (rw c.as_slice-in-Serve.ensures at c.serve_source.ensures)

pub returns-in-Batch : goal.returns-in-Batch
returns-in-Batch g c = rw c.in-Batch.is (refl, rw c.as_slice-in-Batch.ensures at c.batch_source.ensures)

pub returns-in-Large : goal.returns-in-Large
returns-in-Large g c = rw c.in-Large.is (refl, c.run_large.ensures)

pub returns-in-Compile : goal.returns-in-Compile
returns-in-Compile g c = rw c.in-Compile.is (refl, c.compile_source.ensures)

pub returns-in-Cases : goal.returns-in-Cases
returns-in-Cases g c = rw c.in-Cases.is (refl, rw c.as_slice-in-Cases.ensures at c.cases_source.ensures)

pub returns-in-Lint : goal.returns-in-Lint
returns-in-Lint g c = rw c.in-Lint.is (refl, c.lint_source.ensures)

pub returns-in-Check : goal.returns-in-Check
returns-in-Check g c = rw c.in-Check.is (refl, rw c.as_slice-in-Check-2.ensures at rw c.as_slice-in-Check.ensures at c.check_source.ensures)

pub returns-in-Exec : goal.returns-in-Exec
returns-in-Exec g c = rw c.in-Exec.is (refl, rw c.as_slice-in-Exec-2.ensures at rw c.as_slice-in-Exec.ensures at c.exec_code.ensures)
