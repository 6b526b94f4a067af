-- What is printed for rows, given their code, and the status after it.
use Rattle.std.specs.Prelude.{ℕ, ◌<◌, List, [], ◌++◌, Result, Ok, Err, length, slice_index_or}
use Rattle.observables.specs.declared.answer.Answer.{Answer}
use Rattle.observables.specs.declared.face.Face.{Face}
use Rattle.code_file.specs.declared.loaded.Loaded.{Loaded}
use Rattle.household.specs.declared.table.Row.{Row}
use Rattle.m_batch.specs.Batch.{answers_of}
use Rattle.m_batch.specs.Printing.{printed_count, printed_text}
use Rattle.m_batch.specs.declared.fault.PrintFault.{PrintFault}
use Rattle.m_batch.specs.declared.fault.PrintFault.TheVariants.{Memory, Failed}
use Rattle.m_cases.specs.Cases.{AreExpected}
use Rattle.m_cases.specs.Mismatches.{HasValueEach, answer_values, count_line, mismatch_count, mismatch_lines, output_names}
use Rattle.m_cases.specs.declared.expected.Expected.{Expected}
use Rattle.tax_print.specs.Lines.{household_lines}
use Rattle.command_plans.specs.declared.status.Status.{Status}
use Rattle.command_plans.specs.declared.status.Status.TheVariants.{Done, WriteFault, Memory as NoMemory}
use Rattle.code_answers.specs.Cases.{count_status}

-- the lines of a row with its answer
abbrev pub lines_by : Face → ℕ → Row → Answer → List ℕ
lines_by face at row answer = household_lines row.label face answer

abbrev pub nothing_counted : ℕ → Row → Answer → ℕ
nothing_counted at row answer = 0

-- the expectations of the row at a place
abbrev pub expected_at : List (List (ℕ × Expected)) → ℕ → List (ℕ × Expected)
expected_at expected at = slice_index_or expected at []

-- the lines of the expectations of the row at its place that aren't met
abbrev pub mismatches_by : Face → List (List (ℕ × Expected)) → ℕ → Row → Answer → List ℕ
mismatches_by face expected at row answer = mismatch_lines (output_names face.outputs) row.label (answer_values answer) (expected_at expected at)

-- the number of expectations of the row that aren't met
abbrev pub misses_by : Face → List (List (ℕ × Expected)) → ℕ → Row → Answer → ℕ
misses_by face expected at row answer = mismatch_count (answer_values answer) (expected_at expected at)

-- the row at this place has expectations, which are within the outputs, and so can be compared with the answer
pub record MayBeCompared (face : Face) (expected : List (List (ℕ × Expected))) (at : ℕ) (row : Row) (answer : Answer) : Type 0 where
  pub there : at < length expected
  pub expected_is : AreExpected (length face.outputs) (expected_at expected at)
  pub values : HasValueEach face answer

-- the lines of rows, given their code and their expectations, and the number of expectations that aren't met
abbrev pub case_lines : Loaded → List Row → List (List (ℕ × Expected)) → List ℕ
case_lines loaded rows expected = printed_text (mismatches_by loaded.face expected) 0 rows (answers_of loaded.code rows)

abbrev pub case_count : Loaded → List Row → List (List (ℕ × Expected)) → ℕ
case_count loaded rows expected = printed_count (misses_by loaded.face expected) 0 rows (answers_of loaded.code rows)

-- the text of rows, given their code and their expectations
abbrev pub case_text : Loaded → List Row → List (List (ℕ × Expected)) → List ℕ
case_text loaded rows expected = case_lines loaded rows expected ++ count_line (length rows) (case_count loaded rows expected)

-- the status after printing rows
abbrev pub rows_status : {T : Type 0} → Result T PrintFault → Status
rows_status (Ok value) = Done
rows_status (Err Memory) = NoMemory
rows_status (Err Failed) = WriteFault

-- the status after printing cases with this number of mismatches
abbrev pub compared_status : Result ℕ PrintFault → Status
compared_status (Ok count) = count_status count
compared_status (Err Memory) = NoMemory
compared_status (Err Failed) = WriteFault
