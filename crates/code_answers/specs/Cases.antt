-- What the `cases` command prints.
use Rattle.std.specs.Prelude.{ℕ, zero, suc, ◌+◌, List, [], ◌∷◌, ◌++◌, length, Option, Some, None, codes}
use Rattle.tax_print.specs.FaultLines.{at_line, input_line}
use Rattle.household.specs.declared.table.Row.{Row}
use Rattle.m_cases.specs.Cases.{cases_of}
use Rattle.m_cases.specs.Mismatches.{count_line, mismatch_count, mismatch_lines, observation_values}
use Rattle.m_cases.specs.declared.cases.Cases.{Cases}
use Rattle.m_cases.specs.declared.expected.Expected.{Expected}
use Rattle.m_cases.specs.declared.fault.CasesFault.{CasesFault}
use Rattle.m_cases.specs.declared.fault.CasesFault.TheVariants.{BadHeader, TooManyRows, BadRow, UnknownCode, UnknownOutput, CodeTwice, BadAmount, NotOfType}
use Rattle.m_cases.specs.declared.fault.CasesFault.TheVariants.{BadExpected, Memory}
use Rattle.command_plans.specs.declared.status.Status.{Status}
use Rattle.command_plans.specs.declared.status.Status.TheVariants.{Done, Stopped}
use Rattle.code_answers.specs.Replies.{FileReplies}
use Rattle.code_answers.specs.Schemes.{Scheme, observation_for}

-- The line of a fault of a table of cases; none for out of memory. A field `=IR` in the first record, where `IR` isn't
-- requested, has `refused household line 1: unknown output`.
abbrev pub cases_fault_line : CasesFault → Option (List ℕ)
cases_fault_line BadHeader = Some (input_line (codes "household") (codes "bad header"))
cases_fault_line TooManyRows = Some (input_line (codes "household") (codes "too many rows"))
cases_fault_line (BadRow line) = Some (at_line (codes "household") line (codes "bad row"))
cases_fault_line (UnknownCode line) = Some (at_line (codes "household") line (codes "unknown code"))
cases_fault_line (UnknownOutput line) = Some (at_line (codes "household") line (codes "unknown output"))
cases_fault_line (CodeTwice line) = Some (at_line (codes "household") line (codes "code twice"))
cases_fault_line (BadAmount line) = Some (at_line (codes "household") line (codes "bad amount"))
cases_fault_line (NotOfType line) = Some (at_line (codes "household") line (codes "not of its type"))
cases_fault_line (BadExpected line) = Some (at_line (codes "household") line (codes "bad expected"))
cases_fault_line Memory = None

-- the lines of cases, in order: for each case, its expectations that aren't met
abbrev pub cases_lines : Scheme → List Row → List (List (ℕ × Expected)) → List ℕ
cases_lines scheme (row ∷ rows) (es ∷ expected) = mismatch_lines scheme.names row.label (observation_values (observation_for scheme row.household.pairs)) es
    ++ cases_lines scheme rows expected
cases_lines scheme _ _ = []

-- how many expectations of the cases aren't met
abbrev pub cases_count : Scheme → List Row → List (List (ℕ × Expected)) → ℕ
cases_count scheme (row ∷ rows) (es ∷ expected) = mismatch_count (observation_values (observation_for scheme row.household.pairs)) es + cases_count scheme rows
    expected
cases_count scheme _ _ = 0

-- The text of a table of cases: their lines, and then the number of cases and of mismatches.
abbrev pub cases_text : Scheme → Cases → List ℕ
cases_text scheme cases = cases_lines scheme cases.rows cases.expected ++ count_line (length cases.rows) (cases_count scheme cases.rows cases.expected)

-- the status for this number of mismatches
abbrev pub count_status : ℕ → Status
count_status zero = Done
count_status (suc count) = Stopped

-- The answer to the table of these bytes by a scheme: the line of the table's fault, or the text of its cases.
abbrev pub ComparedReplies : Scheme → (table : List ℕ) → List ℕ → Status → Type 0
ComparedReplies scheme table =
    FileReplies (cases_of scheme.inputs scheme.names table) cases_fault_line (cases_text scheme)
    (λ (cases : Cases). count_status (cases_count scheme cases.rows cases.expected))
