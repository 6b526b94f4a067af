-- The lines of a table's rows by code are those by its scheme.
use Rattle.std.proofs.Common.{◌≡◌, ℕ, ◌+◌, length, List, [], ◌∷◌, ◌++◌, refl, ◌∙◌, ap}
use Rattle.std.specs.Prelude.{codes}
use Rattle.std.specs.List.{AllByRecursion}
use Rattle.m_text.specs.Pieces.{joined, new_line}
use Rattle.reg_machine.specs.Machine.{machine_run}
use Rattle.code_file.specs.declared.loaded.Loaded.{Loaded}
use Rattle.household.specs.Household.{values_of}
use Rattle.household.specs.declared.table.Row.{Row}
use Rattle.observables.specs.Inputs.{AreValuesOf}
use Rattle.observables.specs.declared.answer.Answer.{Answer}
use Rattle.m_batch.specs.Batch.{answers_of}
use Rattle.m_batch.specs.Printing.{MayPrintEach, printed_text}
use Rattle.tax_print.specs.Lines.{AnswerIsWithin, answer_lines, observation_lines}
use Rattle.code_answers.specs.Schemes.{Scheme}
use Rattle.code_answers.specs.Shown.{IsRunnableCode, Shows}
use Rattle.code_answers.specs.Tables.{rows_lines}
use Rattle.code_answers.specs.inner.Printers.{lines_by}
use Rattle.code_answers.proofs.Shown.{answer_within, lines_reported}

-- rows by code are rows by its scheme, if they give the inputs values of their types
pub rows_reported : (scheme : Scheme) (loaded : Loaded) (at : ℕ) (rows : List Row) → Shows scheme loaded.face (machine_run loaded.code)
    → loaded.code.counts.inputs ≡ length scheme.inputs
    → AllByRecursion (λ row. AreValuesOf scheme.inputs (values_of row.household.pairs (length scheme.inputs))) rows
    → printed_text (lines_by loaded.face) at rows (answers_of loaded.code rows) ≡ rows_lines scheme rows
rows_reported scheme loaded at [] shown many given = refl
rows_reported scheme loaded at (row ∷ rows) shown many given =
    ap (λ text. (joined (codes "household " ∷ row.label ∷ new_line ∷ []) ++ text) ++ printed_text (lines_by loaded.face) (at + 1) rows
    (answers_of loaded.code rows))
    (ap (λ n. answer_lines loaded.face (machine_run loaded.code (values_of row.household.pairs n))) many
    ∙ lines_reported scheme loaded.face (machine_run loaded.code) (values_of row.household.pairs (length scheme.inputs)) shown given.0)
    ∙ ap (λ rest. (joined (codes "household " ∷ row.label ∷ new_line ∷ []) ++ observation_lines scheme.names
    (scheme.observe (values_of row.household.pairs (length scheme.inputs)))) ++ rest)
    (rows_reported scheme loaded (at + 1) rows shown many given.1)

-- their lines can be printed: the answers are within the face
pub lines_may : (loaded : Loaded) (at : ℕ) (rows : List Row) → IsRunnableCode loaded
    → MayPrintEach (λ at row answer. AnswerIsWithin loaded.face answer) at rows (answers_of loaded.code rows)
lines_may loaded at [] is = tt
lines_may loaded at (row ∷ rows) is = (answer_within loaded (values_of row.household.pairs loaded.code.counts.inputs) is, lines_may loaded (at + 1) rows is)
