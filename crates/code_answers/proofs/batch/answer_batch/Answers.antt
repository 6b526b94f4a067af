use Rattle.std.proofs.Common.{◌≡◌, length, Ok, Err, subst}
use Rattle.household.specs.Table.{table_of}
use Rattle.household.proofs.GivenLemmas.{table_gives}
use Rattle.reg_machine.specs.Machine.{machine_run}
use Rattle.m_batch.proofs.RowLemmas.{rows_below}
use Rattle.code_answers.specs.Shown.{TableReplies}
use Rattle.code_answers.specs.Replies.{file_is_answered}
use Rattle.code_answers.specs.Tables.{rows_lines}
use Rattle.command_plans.specs.declared.status.Status.TheVariants.{Done}
use Rattle.code_answers.proofs.BatchLemmas.{lines_may, rows_reported}
use Rattle.code_answers.proofs.Refusals.{household_refused}
use Rattle.code_answers.proofs.Shown.{code_many, many_inputs}
use Rattle.code_answers.proofs.Ways.{batch_written, table_refused}
use Rattle.code_answers.proofs.batch.answer_batch.Goals as goal

pub print_batch-requires-clause-inputs : goal.print_batch-requires-clause-inputs
print_batch-requires-clause-inputs g c = λ κs held.
    rw c.as_slice.ensures
    (rw (many_inputs c.args.loaded.now) at (rows_below (length c.args.loaded.now.face.inputs) c.in-Ok.rows c.in-Ok.ensures.inputs))

pub print_batch-requires-clause-may : goal.print_batch-requires-clause-may
print_batch-requires-clause-may g c = λ κs held. rw c.as_slice.ensures (lines_may c.args.loaded.now 0 c.in-Ok.rows c.requires)

pub returns-in-Ok : goal.returns-in-Ok
returns-in-Ok g c = λ scheme shown.
    let given = subst (λ inputs. table_of inputs c.args.table.now ≡ Ok c.in-Ok.rows) shown.inputs c.in-Ok.ensures.outcome in
    batch_written _ _ _ _ _ _ (TableReplies scheme c.args.table.now) _ (file_is_answered c.in-Ok.rows given)
    c.status_of_rows.ensures
    (rw (rows_reported scheme c.args.loaded.now 0 c.in-Ok.rows shown (code_many scheme c.args.loaded.now shown)
    (table_gives scheme.inputs c.args.table.now c.in-Ok.rows given)) at (rw c.as_slice.ensures at c.print_batch.ensures.text))

pub returns-in-Err : goal.returns-in-Err
returns-in-Err g c = λ scheme shown.
    table_refused scheme c.args.loaded.now.face (machine_run c.args.loaded.now.code) c.args.table.now (rows_lines scheme) (λ rows. Done) c.in-Err.fault _ _ _
    shown
    (household_refused c.in-Err.fault {IsFault = table_of c.args.loaded.now.face.inputs c.args.table.now ≡ Err c.in-Err.fault} _ _ _ c.in-Err.ensures.outcome
    (rw c.household_entry.ensures at c.report_refusal.ensures))
