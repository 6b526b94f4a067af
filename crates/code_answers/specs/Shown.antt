-- Programs, in any form: when they show a scheme, and their answers to households and tables.
use Rattle.std.specs.Prelude.{◌≡◌, List, ℕ, ◌++◌, None, Some}
use Rattle.m_fixed.specs.declared.amount.Value.{Value}
use Rattle.m_names.specs.Names.{AreDistinct}
use Rattle.observables.specs.declared.answer.Answer.{Answer}
use Rattle.observables.specs.declared.face.Face.{Face}
use Rattle.observables.specs.Answers.{observation}
use Rattle.observables.specs.Inputs.{AreValuesOf, codes_of}
use Rattle.observables.specs.Outputs.{names_of, notes_of}
use Rattle.reg_machine.specs.Flow.{code_fault}
use Rattle.code_file.specs.declared.loaded.Loaded.{Loaded}
use Rattle.household.specs.Household.{household_of}
use Rattle.household.specs.Table.{table_of}
use Rattle.tax_print.specs.Lines.{observation_lines}
use Rattle.command_plans.specs.declared.status.Status.{Status}
use Rattle.command_plans.specs.declared.status.Status.TheVariants.{Done}
use Rattle.code_answers.specs.Households.{household_fault_line, observation_status}
use Rattle.code_answers.specs.Replies.{FileReplies}
use Rattle.code_answers.specs.Schemes.{Scheme, observation_for}
use Rattle.code_answers.specs.Tables.{rows_lines}

-- A program, in any form, shows a scheme: its face has the same inputs and names of outputs, and for all values that
-- the inputs may have, its answer read through its face is the scheme's observation.
pub record Shows (scheme : Scheme) (face : Face) (runs : List Value → Answer) : Type 0 where
  pub inputs : face.inputs ≡ scheme.inputs
  pub names : names_of face.outputs ≡ scheme.names
  pub answers : (values : List Value) → AreValuesOf scheme.inputs values
      → observation face.labels (notes_of face.outputs) (runs values) ≡ Some (scheme.observe values)

-- Code that can be run, of any origin: it is well formed, and its inputs have distinct codes.
pub record IsRunnableCode (loaded : Loaded) : Type 0 where
  pub whole : code_fault loaded.code ≡ None
  pub distinct : AreDistinct (codes_of loaded.face.inputs)

-- The answer to the household of these bytes: the line of the household's fault; or the bytes `front`, and then the
-- lines of what is observed for the household.
abbrev pub HouseholdReplies : (front : List ℕ) → Scheme → (rows : List ℕ) → List ℕ → Status → Type 0
HouseholdReplies front scheme rows =
    FileReplies (household_of scheme.inputs rows) household_fault_line (λ pairs. front ++ observation_lines scheme.names (observation_for scheme pairs))
    (λ pairs. observation_status (observation_for scheme pairs))

-- The answer to the table of these bytes: the line of the table's fault, or the lines of all its rows.
abbrev pub TableReplies : Scheme → (table : List ℕ) → List ℕ → Status → Type 0
TableReplies scheme table = FileReplies (table_of scheme.inputs table) household_fault_line (rows_lines scheme) (λ rows. Done)
