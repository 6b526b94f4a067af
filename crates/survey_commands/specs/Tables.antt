-- The answer of `table` by a scheme, for a source and for a code file.
use Rattle.std.specs.Prelude.{ℕ, List}
use Rattle.household.specs.Table.{table_of}
use Rattle.command_plans.specs.declared.status.Status.{Status}
use Rattle.command_plans.specs.declared.status.Status.TheVariants.{Done}
use Rattle.code_answers.specs.Households.{household_fault_line}
use Rattle.code_answers.specs.Replies.{FileReplies}
use Rattle.code_answers.specs.Schemes.{Scheme}
use Rattle.survey_commands.specs.Records.{table_text}

-- The answer to the table of these bytes by a scheme: the line of the table's fault, or its records. A household whose
-- run stops has a record too, and the rows after it are answered.
abbrev pub SchemeReplies : Scheme → (table : List ℕ) → List ℕ → Status → Type 0
SchemeReplies scheme table = FileReplies (table_of scheme.inputs table) household_fault_line (table_text scheme) (λ rows. Done)
