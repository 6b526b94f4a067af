use Rattle.std.proofs.Common.{◌≡◌, length, Ok, Err, subst}
use Rattle.household.specs.Table.{table_of}
use Rattle.household.proofs.GivenLemmas.{table_gives}
use Rattle.reg_machine.specs.Machine.{machine_run}
use Rattle.m_batch.proofs.RowLemmas.{rows_below}
use Rattle.code_answers.proofs.Refusals.{household_refused}
use Rattle.code_answers.proofs.Shown.{code_many, many_inputs}
use Rattle.code_answers.proofs.Ways.{batch_written, table_refused}
use Rattle.command_plans.specs.declared.status.Status.TheVariants.{Done}
use Rattle.code_answers.specs.Replies.{file_is_answered}
use Rattle.survey_commands.specs.Records.{table_text}
use Rattle.survey_commands.specs.Tables.{SchemeReplies}
use Rattle.survey_commands.proofs.RecordLemmas.{text_reported}
use Rattle.survey_commands.proofs.table.answer_table.Goals as goal

pub print_table-requires-clause-inputs : goal.print_table-requires-clause-inputs
print_table-requires-clause-inputs g c = λ κs held.
    rw c.as_slice-rows.ensures
    (rw (many_inputs c.args.loaded.now) at (rows_below (length c.args.loaded.now.face.inputs) c.in-Ok-rows_of.rows c.in-Ok-rows_of.ensures.inputs))

pub returns-in-Ok-rows_of : goal.returns-in-Ok-rows_of
returns-in-Ok-rows_of g c = λ scheme shown.
    let rows = c.in-Ok-rows_of.rows in
    let given = subst (λ inputs. table_of inputs c.args.table.now ≡ Ok rows) shown.inputs c.in-Ok-rows_of.ensures.outcome in
    batch_written _ _ _ _ _ _ (SchemeReplies scheme c.args.table.now) _ (file_is_answered rows given)
    c.status_of_rows.ensures
    (rw (text_reported scheme c.args.loaded.now rows shown (code_many scheme c.args.loaded.now shown) (table_gives scheme.inputs c.args.table.now rows given))
    at (rw c.as_slice-rows.ensures at c.print_table.ensures))

pub returns : goal.returns
returns g c = λ scheme shown.
    table_refused scheme c.args.loaded.now.face (machine_run c.args.loaded.now.code) c.args.table.now (table_text scheme) (λ rows. Done) c.in-Err.fault _ _ _
    shown
    (household_refused c.in-Err.fault {IsFault = table_of c.args.loaded.now.face.inputs c.args.table.now ≡ Err c.in-Err.fault} _ _ _ c.in-Err.ensures.outcome
    (rw c.household_entry.ensures at c.report_refusal.ensures))
