-- Code and its face as text: the code file, byte for byte.
use Rattle.std.specs.Prelude.{ℕ, ◌+◌, ◌/◌, ◌%◌, nat_lt, Bool, true, false, List, [], ◌∷◌, ◌++◌, codes, decimal, map, take, if◌then◌else◌}
use Rattle.std.specs.List.{flat_map}
use Rattle.std.specs.Fmt.{signed_decimal}
use Rattle.m_fixed.specs.declared.operator.Op.{Op}
use Rattle.m_fixed.specs.declared.operator.Op.TheVariants.{Add, Sub, Mul, Div, Neg, Eq, Ne, Lt, Le, Gt, Ge, And, Or, Not, Present, Abs, Positive}
use Rattle.m_fixed.specs.declared.operator.Op.TheVariants.{PositiveOrNull, Null, Arr, Inf, Max, Min, Truth as TruthOf, Choose, At}
use Rattle.m_fixed.specs.Operators.{arity_of}
use Rattle.m_fixed.specs.declared.amount.Value.{Value}
use Rattle.m_fixed.specs.declared.amount.Value.TheVariants.{Undef, Num, Over}
use Rattle.m_places.specs.declared.verification.ErrorKind.{ErrorKind}
use Rattle.m_places.specs.declared.verification.ErrorKind.TheVariants.{Anomalie, Discordance, Informative}
use Rattle.m_places.specs.declared.verification.Label.{Label}
use Rattle.observables.specs.declared.inputs.Coded.{Coded}
use Rattle.observables.specs.declared.inputs.InputType.{InputType}
use Rattle.observables.specs.declared.inputs.InputType.TheVariants.{Any, Whole, Truth}
use Rattle.observables.specs.declared.face.FaceLabel.{FaceLabel}
use Rattle.observables.specs.declared.face.FaceLabel.TheVariants.{Verif, DriverLine}
use Rattle.observables.specs.declared.face.FaceOutput.{FaceOutput}
use Rattle.observables.specs.declared.face.FaceOutput.TheVariants.{Named, Noted}
use Rattle.reg_machine.specs.declared.instr.Instr.{Instr}
use Rattle.reg_machine.specs.declared.instr.Instr.TheVariants.{Take, Lit, Do, Store, Load, Check, Output}
use Rattle.reg_machine.specs.Flow.{Listing}
use Rattle.m_text.specs.Pieces.{new_line, joined}

-- ---- the face

-- the slot count: `slots 3`
abbrev pub slots_line : ℕ → List ℕ
slots_line n = joined (codes "slots " ∷ decimal n ∷ new_line ∷ [])

-- the word of a type, after a space; empty for `Any`
abbrev pub kind_words : InputType → List ℕ
kind_words Any = []
kind_words Whole = codes " whole"
kind_words Truth = codes " truth"

-- an input: `input 1AJ`, `input 0CF whole`, `input 8ZZ truth`
abbrev pub input_line : Coded → List ℕ
input_line input = joined (codes "input " ∷ input.code ∷ kind_words input.kind ∷ new_line ∷ [])

-- a hexadecimal digit, from `0` to `9` and `a` to `f`
abbrev pub hex_digit : ℕ → ℕ
hex_digit d = if nat_lt d 10 then 48 + d else 87 + d

-- two digits per byte: `n:` is `6e3a`
abbrev pub hex_of : List ℕ → List ℕ
hex_of [] = []
hex_of (b ∷ bs) = hex_digit (b / 16) ∷ hex_digit (b % 16) ∷ hex_of bs

-- the word of an error's kind
abbrev pub kind_word : ErrorKind → List ℕ
kind_word Anomalie = codes "anomalie"
kind_word Discordance = codes "discordance"
kind_word Informative = codes "informative"

-- the part of a verification's label before its text: `label verif 2000 A20 anomalie `
abbrev pub verif_front : Label → List ℕ
verif_front label = joined (codes "label verif " ∷ label.verif ∷ codes " " ∷ label.error ∷ codes " " ∷ kind_word label.kind ∷ codes " " ∷ [])

-- a label: `label verif 2000 A20 anomalie 6e3a`, or for a line of the driver `label driver 2`
abbrev pub label_line : FaceLabel → List ℕ
label_line (Verif label) = verif_front label ++ (hex_of label.text ++ new_line)
label_line (DriverLine line) = joined (codes "label driver " ∷ decimal line ∷ new_line ∷ [])

-- an output: `output T[1]`, or for a note of label 3 `note 3`
abbrev pub output_line : FaceOutput → List ℕ
output_line (Named name) = joined (codes "output " ∷ name ∷ new_line ∷ [])
output_line (Noted number) = joined (codes "note " ∷ decimal number ∷ new_line ∷ [])

-- ---- instructions

-- the word of an operator
abbrev pub op_word : Op → List ℕ
op_word Add = codes "add"
op_word Sub = codes "sub"
op_word Mul = codes "mul"
op_word Div = codes "div"
op_word Neg = codes "neg"
op_word Eq = codes "eq"
op_word Ne = codes "ne"
op_word Lt = codes "lt"
op_word Le = codes "le"
op_word Gt = codes "gt"
op_word Ge = codes "ge"
op_word And = codes "and"
op_word Or = codes "or"
op_word Not = codes "not"
op_word Present = codes "present"
op_word Abs = codes "abs"
op_word Positive = codes "positif"
op_word PositiveOrNull = codes "positif_ou_nul"
op_word Null = codes "null"
op_word Arr = codes "arr"
op_word Inf = codes "inf"
op_word Max = codes "max"
op_word Min = codes "min"
op_word TruthOf = codes "truth"
op_word Choose = codes "choose"
op_word At = codes "at"

-- operands, each after a space, and the end of the line
abbrev pub operands : List (List ℕ) → List ℕ
operands [] = new_line
operands (operand ∷ others) = codes " " ++ (operand ++ operands others)

-- the word of a literal; a number is in whole millionths, as `-1500000`
abbrev pub literal_word : Value → List ℕ
literal_word Undef = codes "undef"
literal_word (Num amount) = signed_decimal amount
literal_word Over = codes "over"

-- the word of a check; `co` stops a run only on over
abbrev pub check_word : Bool → List ℕ
check_word false = codes "ck"
check_word true = codes "co"

-- An instruction: `in 0 3`, `lit 0 undef`, `do 0 neg 1`, `do 0 sub 0 1`, `st 0 1`, `ld 0 1`,
-- `ck 0 1 2`, `out 0 1`. An operator has as many arguments as its arity.
abbrev pub instr_line : Instr → List ℕ
instr_line (Take r n) = codes "in" ++ operands (decimal r ∷ decimal n ∷ [])
instr_line (Lit r v) = codes "lit" ++ operands (decimal r ∷ literal_word v ∷ [])
instr_line (Do op r a b c) = codes "do" ++ operands (decimal r ∷ op_word op ∷ map decimal (take (arity_of op) (a ∷ b ∷ c ∷ [])))
instr_line (Store k r) = codes "st" ++ operands (decimal k ∷ decimal r ∷ [])
instr_line (Load r k) = codes "ld" ++ operands (decimal r ∷ decimal k ∷ [])
instr_line (Check g c over_only label) = check_word over_only ++ operands (decimal g ∷ decimal c ∷ decimal label ∷ [])
instr_line (Output k r) = codes "out" ++ operands (decimal k ∷ decimal r ∷ [])

-- ---- the file

-- The text of code whose face has these inputs, labels and outputs.
abbrev pub code_text : Listing → List Coded → List FaceLabel → List FaceOutput → List ℕ
code_text code inputs labels outputs =
    codes "mcode 1\n" ++ (slots_line code.counts.slots ++ (flat_map input_line inputs ++ (flat_map label_line labels
    ++ (flat_map output_line outputs ++ (codes "code\n" ++ (flat_map instr_line code.instrs ++ codes "end\n"))))))
