-- The records that `table` prints. The label of a household may have any byte from 32 on, and is quoted if necessary.
-- No other field needs quotes: names, numbers of verifications and names of errors are words of M.
use Rattle.std.specs.Prelude.{ℕ, Bool, true, false, List, [], ◌∷◌, ◌++◌, codes, decimal, if◌then◌else◌}
use Rattle.std.specs.List.{flat_map}
use Rattle.m_text.specs.Pieces.{joined, new_line}
use Rattle.m_fixed.specs.declared.amount.Value.{Value}
use Rattle.m_fixed.specs.declared.amount.Value.TheVariants.{Undef, Num, Over as OverValue}
use Rattle.m_fixed.specs.Text.{printed}
use Rattle.m_places.specs.declared.verification.Label.{Label}
use Rattle.observables.specs.Answers.{Cause, failed, over, over_driver, Observation, values, stopped}
use Rattle.household.specs.declared.table.Row.{Row}
use Rattle.code_answers.specs.Schemes.{Scheme, observation_for}
use Rattle.survey_commands.specs.Csv.{field_text}

-- names, each after a comma
abbrev pub name_fields : List (List ℕ) → List ℕ
name_fields names = flat_map (λ name. joined (codes "," ∷ name ∷ [])) names

-- The first record: `name,stop,notes,IRN,T[1]`, where `IRN` and `T[1]` are requested.
abbrev pub header : List (List ℕ) → List ℕ
header names = joined (codes "name,stop,notes" ∷ name_fields names ∷ new_line ∷ [])

-- the field of a stop: `failed 2000 A20`, `over verification 2000 A20` or `over driver line 2`
abbrev pub cause_field : Cause → List ℕ
cause_field (failed label) = joined (codes "failed " ∷ label.verif ∷ codes " " ∷ label.error ∷ [])
cause_field (over label) = joined (codes "over verification " ∷ label.verif ∷ codes " " ∷ label.error ∷ [])
cause_field (over_driver line) = joined (codes "over driver line " ∷ decimal line ∷ [])

-- the separator before a note: none before the first
abbrev pub between : Bool → List ℕ
between some = if some then codes "; " else []

-- notes, where the flag means that there are others before them
abbrev pub more_notes : Bool → List Label → List ℕ
more_notes some [] = []
more_notes some (label ∷ labels) = joined (between some ∷ label.verif ∷ codes " " ∷ label.error ∷ []) ++ more_notes true labels

-- the field of notes: `2000 A20; 2001 A21`
abbrev pub notes_field : List Label → List ℕ
notes_field labels = more_notes false labels

-- the field of a value: an amount, nothing where it is undefined, or `over`
abbrev pub value_field : Value → List ℕ
value_field Undef = []
value_field (Num amount) = printed amount
value_field OverValue = codes "over"

-- the fields of values with names, each after a comma
abbrev pub value_fields : List (List ℕ) → List Value → List ℕ
value_fields (name ∷ names) (v ∷ vs) = joined (codes "," ∷ value_field v ∷ []) ++ value_fields names vs
value_fields _ _ = []

-- an empty field for each name, each after a comma
abbrev pub empty_fields : List (List ℕ) → List ℕ
empty_fields names = flat_map (λ name. codes ",") names

-- An observation as the fields after a household's label, with the end of the record: its stop, its notes and its
-- values. A stopped run has neither notes nor values.
abbrev pub observation_fields : List (List ℕ) → Observation → List ℕ
observation_fields names (values notes vs) = joined (codes ",," ∷ notes_field notes ∷ value_fields names vs ∷ new_line ∷ [])
observation_fields names (stopped cause) = joined (codes "," ∷ cause_field cause ∷ codes "," ∷ empty_fields names ∷ new_line ∷ [])

-- The record of a household: its label, and what is observed for its amounts.
abbrev pub row_record : Scheme → Row → List ℕ
row_record scheme row = field_text row.label ++ observation_fields scheme.names (observation_for scheme row.household.pairs)

-- The records of a table's rows, in order.
abbrev pub rows_records : Scheme → List Row → List ℕ
rows_records scheme [] = []
rows_records scheme (row ∷ rows) = row_record scheme row ++ rows_records scheme rows

-- The text of a table: the first record, and those of its rows.
abbrev pub table_text : Scheme → List Row → List ℕ
table_text scheme rows = header scheme.names ++ rows_records scheme rows
