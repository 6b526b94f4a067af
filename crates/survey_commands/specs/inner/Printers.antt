-- What is printed for rows, given their code, and the status after it.
use Rattle.std.specs.Prelude.{ℕ, List, ◌++◌}
use Rattle.observables.specs.Outputs.{names_of}
use Rattle.observables.specs.declared.answer.Answer.{Answer}
use Rattle.observables.specs.declared.face.Face.{Face}
use Rattle.code_file.specs.declared.loaded.Loaded.{Loaded}
use Rattle.household.specs.declared.table.Row.{Row}
use Rattle.m_batch.specs.Batch.{answers_of}
use Rattle.m_batch.specs.Printing.{printed_text}
use Rattle.survey_commands.specs.Csv.{field_text}
use Rattle.survey_commands.specs.Records.{header}
use Rattle.survey_commands.specs.inner.Outputs.{answer_fields}

-- the record of a row with its answer
abbrev pub record_by : Face → ℕ → Row → Answer → List ℕ
record_by face at row answer = field_text row.label ++ answer_fields face answer

-- the records of rows by code
abbrev pub records_by : Loaded → List Row → List ℕ
records_by loaded rows = printed_text (record_by loaded.face) 0 rows (answers_of loaded.code rows)

-- the text of rows by code
abbrev pub text_by : Loaded → List Row → List ℕ
text_by loaded rows = header (names_of loaded.face.outputs) ++ records_by loaded rows
