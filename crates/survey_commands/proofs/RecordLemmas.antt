-- The records of a table's rows by code are those by its scheme.
use Rattle.std.proofs.Common.{◌≡◌, ℕ, ◌+◌, ◌<◌, length, get_or, List, [], ◌∷◌, ◌++◌, Option, false, refl, sym, ◌∙◌, ap}
use Rattle.std.specs.Prelude.{codes, slice_get}
use Rattle.std.specs.List.{AllByRecursion}
use Rattle.std.specs.Option.{option_map_or}
use Rattle.std.proofs.lemmas.Option.{slice_get-get_or}
use Rattle.m_text.specs.Pieces.{joined, new_line}
use Rattle.m_fixed.specs.declared.amount.Value.{Value}
use Rattle.reg_machine.specs.Machine.{machine_run}
use Rattle.code_file.specs.declared.loaded.Loaded.{Loaded}
use Rattle.household.specs.Household.{values_of}
use Rattle.household.specs.declared.table.Row.{Row}
use Rattle.observables.specs.Answers.{Observation, label_number}
use Rattle.observables.specs.Inputs.{AreValuesOf}
use Rattle.observables.specs.Outputs.{names_of}
use Rattle.observables.specs.declared.answer.Answer.{Answer}
use Rattle.observables.specs.declared.answer.Answer.TheVariants.{Values, Stopped}
use Rattle.observables.specs.declared.answer.Stop.{Stop}
use Rattle.observables.specs.declared.face.Face.{Face}
use Rattle.observables.specs.declared.face.FaceLabel.TheVariants.{DriverLine}
use Rattle.m_batch.specs.Batch.{answers_of}
use Rattle.m_batch.specs.Printing.{printed_text}
use Rattle.code_answers.specs.Schemes.{Scheme}
use Rattle.code_answers.specs.Shown.{Shows}
use Rattle.survey_commands.specs.Csv.{field_text}
use Rattle.survey_commands.specs.Records.{header, rows_records, table_text, observation_fields}
use Rattle.survey_commands.specs.inner.Outputs.{answer_fields, output_fields, output_notes, output_values, stop_field}
use Rattle.survey_commands.specs.inner.Printers.{record_by, text_by}
use Rattle.survey_commands.proofs.OutputLemmas.{empties_are, notes_are, stop_fields, values_are}

-- ---- one answer

-- the fields of values
pub reported_values : (face : Face) (vs : List Value)
    → joined (codes ",," ∷ output_notes false face.labels face.outputs vs ∷ output_values face.outputs vs ∷ new_line ∷ []) ≡ answer_fields face (Values vs)
reported_values face vs = λ i. joined (codes ",," ∷ notes_are false face.labels face.outputs vs face.notes i ∷ values_are face.labels face.outputs vs face.notes
    i ∷ new_line ∷ [])

-- the fields of a stop
pub stop_reported : (face : Face) (stop : Stop) → label_number stop < length face.labels
    → joined (codes "," ∷ stop_field face.labels stop ∷ codes "," ∷ output_fields false face.outputs ∷ new_line ∷ []) ≡ answer_fields face (Stopped stop)
stop_reported face stop is =
    ap (λ rest. joined (codes "," ∷ stop_field face.labels stop ∷ codes "," ∷ rest ∷ new_line ∷ [])) (empties_are face.outputs)
    ∙ sym (stop_fields (names_of face.outputs) face.labels stop (slice_get face.labels (label_number stop))
    (get_or face.labels (label_number stop) (DriverLine 0))
    (slice_get-get_or face.labels (label_number stop) (DriverLine 0) is))

-- ---- rows

-- the fields of a program's answer to values
fields_reported : (scheme : Scheme) (face : Face) (runs : List Value → Answer) (vs : List Value) → Shows scheme face runs → AreValuesOf scheme.inputs vs
    → answer_fields face (runs vs) ≡ observation_fields scheme.names (scheme.observe vs)
fields_reported scheme face runs vs shown given =
    ap (λ (t : Option Observation). option_map_or (observation_fields (names_of face.outputs)) t []) (shown.answers vs given)
    ∙ ap (λ names. observation_fields names (scheme.observe vs)) shown.names

-- rows by code are rows by its scheme, if they give the inputs values of their types
rows_reported : (scheme : Scheme) (loaded : Loaded) (at : ℕ) (rows : List Row) → Shows scheme loaded.face (machine_run loaded.code)
    → loaded.code.counts.inputs ≡ length scheme.inputs
    → AllByRecursion (λ row. AreValuesOf scheme.inputs (values_of row.household.pairs (length scheme.inputs))) rows
    → printed_text (record_by loaded.face) at rows (answers_of loaded.code rows) ≡ rows_records scheme rows
rows_reported scheme loaded at [] shown many given = refl
rows_reported scheme loaded at (row ∷ rows) shown many given =
    ap (λ text. (field_text row.label ++ text) ++ printed_text (record_by loaded.face) (at + 1) rows (answers_of loaded.code rows))
    (ap (λ n. answer_fields loaded.face (machine_run loaded.code (values_of row.household.pairs n))) many
    ∙ fields_reported scheme loaded.face (machine_run loaded.code) (values_of row.household.pairs (length scheme.inputs)) shown given.0)
    ∙ ap (λ rest. (field_text row.label ++ observation_fields scheme.names (scheme.observe (values_of row.household.pairs (length scheme.inputs)))) ++ rest)
    (rows_reported scheme loaded (at + 1) rows shown many given.1)

-- the whole text by code is that by its scheme
pub text_reported : (scheme : Scheme) (loaded : Loaded) (rows : List Row) → Shows scheme loaded.face (machine_run loaded.code)
    → loaded.code.counts.inputs ≡ length scheme.inputs
    → AllByRecursion (λ row. AreValuesOf scheme.inputs (values_of row.household.pairs (length scheme.inputs))) rows
    → text_by loaded rows ≡ table_text scheme rows
text_reported scheme loaded rows shown many given = λ i. header (shown.names i) ++ rows_reported scheme loaded 0 rows shown many given i
