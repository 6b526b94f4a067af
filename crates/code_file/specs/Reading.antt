-- The meaning of bytes as a code file: loaded code of which they are the form, or else their first
-- fault.
use Rattle.std.specs.Prelude.{◌≡◌, ◌≢◌, ℕ, suc, ◌<◌, ◌==◌, ◌&&◌, not, Bool, IsTrue, is_none, is_some, List, [], ◌∷◌, ◌++◌, length, fold, codes, Some, None}
use Rattle.std.specs.List.{AllByRecursion, flat_map}
use Rattle.m_fixed.specs.declared.amount.Value.{Value}
use Rattle.m_fixed.specs.declared.amount.Value.TheVariants.{Undef, Num, Over}
use Rattle.m_fixed.specs.Amounts.{IsAmount}
use Rattle.m_names.specs.Names.{has}
use Rattle.observables.specs.declared.inputs.Coded.{Coded}
use Rattle.observables.specs.declared.face.FaceLabel.{FaceLabel}
use Rattle.observables.specs.declared.face.FaceLabel.TheVariants.{Verif, DriverLine}
use Rattle.observables.specs.declared.face.FaceOutput.{FaceOutput}
use Rattle.observables.specs.declared.face.FaceOutput.TheVariants.{Named, Noted}
use Rattle.observables.specs.Inputs.{codes_of}
use Rattle.observables.specs.Outputs.{notes_stand_first}
use Rattle.reg_machine.specs.declared.instr.Instr.{Instr}
use Rattle.reg_machine.specs.declared.instr.Instr.TheVariants.{Take, Lit, Do, Store, Load, Check, Output}
use Rattle.reg_machine.specs.declared.instr.TheConstants.{REGISTERS}
use Rattle.reg_machine.specs.declared.wrong.Wrong.TheVariants.{Order}
use Rattle.reg_machine.specs.Flow.{Listing, code_of, with_instr, reading, code_fault, repeats_first, wrong_behind}
use Rattle.code_file.specs.declared.fault.CodeFault.{CodeFault}
use Rattle.code_file.specs.declared.fault.CodeFault.TheVariants.{BadHeader, BadLine, BadOrder, Memory}
use Rattle.code_file.specs.declared.loaded.Loaded.{Loaded}
use Rattle.code_file.specs.Text.{slots_line, input_line, label_line, output_line, instr_line}
use Rattle.code_file.specs.Printable.{IsFreeWord, IsPrintable, IsPrintableLabel, IsPrintableOutput}
use Rattle.code_file.specs.Loading.{text_with}

-- ---- one line

-- the content of one line
pub data Entry : Type 0 where
  version : Entry
  slot_count : ℕ → Entry
  an_input : Coded → Entry
  a_label : FaceLabel → Entry
  an_output : FaceOutput → Entry
  code_start : Entry
  an_instr : Instr → Entry
  code_end : Entry

-- the line of an entry, with its line feed
abbrev pub entry_line : Entry → List ℕ
entry_line version = codes "mcode 1\n"
entry_line (slot_count n) = slots_line n
entry_line (an_input input) = input_line input
entry_line (a_label label) = label_line label
entry_line (an_output output) = output_line output
entry_line code_start = codes "code\n"
entry_line (an_instr i) = instr_line i
entry_line code_end = codes "end\n"

-- a number that fits 32 bits
abbrev pub IsShort : ℕ → Type 0
IsShort n = n < 4_294_967_296

-- a label whose text is of bytes, or whose line number fits 32 bits
abbrev pub IsFittingLabel : FaceLabel → Type 0
IsFittingLabel (Verif label) = AllByRecursion (λ b. b < 256) label.text
IsFittingLabel (DriverLine line) = IsShort line

-- an output whose number, if it is a note, fits 32 bits
abbrev pub IsFittingOutput : FaceOutput → Type 0
IsFittingOutput (Named name) = Unit {0}
IsFittingOutput (Noted number) = IsShort number

-- a literal: undefined, over, or an amount
abbrev pub IsLiteral : Value → Type 0
IsLiteral Undef = Unit {0}
IsLiteral (Num z) = IsAmount z
IsLiteral Over = Unit {0}

-- Registers are below 16, arguments past the operator's arity repeat the first, other numbers fit
-- 32 bits, and a literal that is a number is an amount.
abbrev pub IsInstr : Instr → Type 0
IsInstr (Take r n) = (r < REGISTERS) × IsShort n
IsInstr (Lit r v) = (r < REGISTERS) × IsLiteral v
IsInstr (Do op r a b c) = (r < REGISTERS) × (a < REGISTERS) × (b < REGISTERS) × (c < REGISTERS) × IsTrue (repeats_first op a b c)
IsInstr (Store k r) = IsShort k × (r < REGISTERS)
IsInstr (Load r k) = (r < REGISTERS) × IsShort k
IsInstr (Check g c over_only number) = (g < REGISTERS) × (c < REGISTERS) × IsShort number
IsInstr (Output k r) = IsShort k × (r < REGISTERS)

-- The words and numbers of an entry have the forms of the format. Whether the entry may come at its
-- place is `due`.
abbrev pub IsEntry : Entry → Type 0
IsEntry version = Unit {0}
IsEntry (slot_count n) = IsShort n
IsEntry (an_input input) = IsFreeWord input.code
IsEntry (a_label label) = IsPrintableLabel label × IsFittingLabel label
IsEntry (an_output output) = IsPrintableOutput output × IsFittingOutput output
IsEntry code_start = Unit {0}
IsEntry (an_instr i) = IsInstr i
IsEntry code_end = Unit {0}

-- ---- the lines so far

-- The state after some lines. `part` is how many of the lines `mcode 1`, `slots`, `code` and `end`
-- there were.
pub record Draft : Type 0 where
  pub part : ℕ
  pub slots : ℕ
  pub inputs : List Coded
  pub labels : List FaceLabel
  pub outputs : List FaceOutput
  pub instrs : List Instr

-- the state before the first line
abbrev pub blank : Draft
blank = record { part = 0; slots = 0; inputs = []; labels = []; outputs = []; instrs = [] }

-- the code of the lines so far
abbrev pub code_in : Draft → Listing
code_in d = code_of (length d.inputs) d.slots (length d.labels) (length d.outputs) d.instrs

-- Whether an entry may come next. The order is: `mcode 1`; `slots`; inputs with distinct codes;
-- labels; outputs, the notes first, each of a label of a verification; `code`; valid instructions;
-- and `end`, if each output has a value.
abbrev pub due : Entry → Draft → Bool
due version d = d.part == 0
due (slot_count n) d = d.part == 1
due (an_input input) d = (d.part == 2) && ((length d.labels == 0) && ((length d.outputs == 0) && not (has input.code (codes_of d.inputs))))
due (a_label label) d = (d.part == 2) && (length d.outputs == 0)
due (an_output output) d = (d.part == 2) && notes_stand_first d.labels (d.outputs ++ output ∷ [])
due code_start d = d.part == 2
due (an_instr i) d = (d.part == 3) && is_some (reading (with_instr (code_in d) i))
due code_end d = (d.part == 3) && is_none (code_fault (code_in d))

-- the state after one more entry
abbrev pub stated : Draft → Entry → Draft
stated d version = record d { part = 1 }
stated d (slot_count n) = record d { part = 2; slots = n }
stated d (an_input input) = record d { inputs = d.inputs ++ input ∷ [] }
stated d (a_label label) = record d { labels = d.labels ++ label ∷ [] }
stated d (an_output output) = record d { outputs = d.outputs ++ output ∷ [] }
stated d code_start = record d { part = 3 }
stated d (an_instr i) = record d { instrs = d.instrs ++ i ∷ [] }
stated d code_end = record d { part = 4 }

-- each entry is well-formed and may come after those before it
abbrev pub AreDue : Draft → List Entry → Type 0
AreDue d [] = Unit {0}
AreDue d (entry ∷ entries) = IsEntry entry × IsTrue (due entry d) × AreDue (stated d entry) entries

-- the state after these entries
abbrev pub draft_of : List Entry → Draft
draft_of entries = fold stated blank entries

-- ---- the first fault

-- the bytes don't begin with the line of an entry that may come next
abbrev pub Ends : Draft → List ℕ → Type 0
Ends d rest = (entry : Entry) (behind : List ℕ) → rest ≡ entry_line entry ++ behind → IsEntry entry → IsTrue (due entry d) → ⊥

-- `entries` are all valid entries from the start. After them `rest` begins with something else, or
-- is empty although there was no `end`.
pub record Stops (bytes : List ℕ) (entries : List Entry) (rest : List ℕ) : Type 0 where
  pub text : bytes ≡ flat_map entry_line entries ++ rest
  pub due : AreDue blank entries
  pub ends : Ends (draft_of entries) rest
  pub open_end : (draft_of entries).part ≡ 4 → rest ≢ []

-- The bytes begin with a well-formed instruction that reads a register or a slot which no earlier
-- one has written.
abbrev pub ReadsUnwritten : Draft → List ℕ → Type 0
ReadsUnwritten d rest = (i : Instr) × (behind : List ℕ) × (rest ≡ instr_line i ++ behind) × IsInstr i × (d.part ≡ 3) × (wrong_behind (code_in d) i ≡ Some Order)

-- The first fault, which is at the line after the valid entries, even if the bytes end there: the
-- first line isn't `mcode 1`, an instruction reads what was never written, or another line isn't
-- allowed. Running out of memory is no fault of the bytes.
abbrev pub IsCodeFault : List ℕ → CodeFault → Type 0
IsCodeFault bytes BadHeader = Stops bytes [] bytes
IsCodeFault bytes (BadLine n) = (entries : List Entry) × (rest : List ℕ) × Stops bytes entries rest × (entries ≢ []) × (n ≡ suc (length entries))
    × (ReadsUnwritten (draft_of entries) rest → ⊥)
IsCodeFault bytes (BadOrder n) = (entries : List Entry) × (rest : List ℕ) × Stops bytes entries rest × (n ≡ suc (length entries))
    × ReadsUnwritten (draft_of entries) rest
IsCodeFault bytes Memory = ⊥

-- ---- the form

-- The numbers of loaded code are in range: slots, driver lines, labels and operands fit 32 bits,
-- registers are below 16, and texts are of bytes. This holds of every `Loaded`, because of its
-- types.
pub record Fits (loaded : Loaded) : Type 0 where
  pub slots : IsShort loaded.code.counts.slots
  pub labels : AllByRecursion IsFittingLabel loaded.face.labels
  pub outputs : AllByRecursion IsFittingOutput loaded.face.outputs
  pub instrs : AllByRecursion IsInstr loaded.code.instrs

-- Bytes are the form of loaded code: the face is printable, the numbers are in range, the code is
-- valid, and the bytes are their text.
pub record IsFormOf (bytes : List ℕ) (loaded : Loaded) : Type 0 where
  pub printable : IsPrintable loaded.face
  pub fits : Fits loaded
  pub right : code_fault loaded.code ≡ None
  pub text : bytes ≡ text_with loaded.code loaded.face
