-- The answer of `exec`.
use Rattle.std.specs.Prelude.{◌≡◌, ℕ, List, [], Option, Some, None, codes}
use Rattle.tax_print.specs.FaultLines.{at_line, input_line}
use Rattle.reg_machine.specs.Machine.{machine_run}
use Rattle.household.specs.Household.{household_of}
use Rattle.code_file.specs.Reading.{IsFormOf, IsCodeFault}
use Rattle.code_file.specs.declared.fault.CodeFault.{CodeFault}
use Rattle.code_file.specs.declared.fault.CodeFault.TheVariants.{BadHeader, BadLine, BadOrder, Memory}
use Rattle.code_file.specs.declared.loaded.Loaded.{Loaded}
use Rattle.command_plans.specs.declared.status.Status.{Status}
use Rattle.code_answers.specs.Replies.{HasGiven, RepliesBy}
use Rattle.code_answers.specs.Shown.{HouseholdReplies, Shows}
use Rattle.code_answers.specs.Schemes.{Scheme}

-- The line of a fault of a code file; none for out of memory. A register read in line 7 before it is written has
-- `refused code line 7: read before write`.
abbrev pub code_fault_line : CodeFault → Option (List ℕ)
code_fault_line BadHeader = Some (input_line (codes "code") (codes "bad header"))
code_fault_line (BadLine line) = Some (at_line (codes "code") line (codes "bad line"))
code_fault_line (BadOrder line) = Some (at_line (codes "code") line (codes "read before write"))
code_fault_line Memory = None

-- The answer of a code file: the line of its first fault; or the file is the form of some code with its face, a scheme
-- gives the answers of that code for every household, and this is an answer by it.
abbrev pub CodeReplies : (code : List ℕ) → (Scheme → List ℕ → Status → Type 0) → List ℕ → Status → Type 0
CodeReplies code =
    RepliesBy (λ line. (fault : CodeFault) × IsCodeFault code fault × (code_fault_line fault ≡ Some line))
    (λ scheme. (loaded : Loaded) × IsFormOf code loaded × Shows scheme loaded.face (machine_run loaded.code))

-- The answer of a code file to the household of these bytes.
abbrev pub ExecReplies : (code rows : List ℕ) → List ℕ → Status → Type 0
ExecReplies code rows = CodeReplies code (λ scheme. HouseholdReplies [] scheme rows)

-- a code file without a fault, and a household without a fault for its inputs
abbrev pub ExecHasAnswer : (code rows : List ℕ) → Type 0
ExecHasAnswer code rows = HasGiven (IsFormOf code) (λ (loaded : Loaded). household_of loaded.face.inputs rows)
