-- The parser of lines of instructions, from left to right. Lines are without their line feed here.
use Rattle.std.specs.Prelude.{ℕ, zero, suc, ℤ, pos, negsuc, ◌+◌, ◌-◌, ◌*◌, ◌==◌, nat_lt, Bool, true, false, ◌&&◌, List, [], ◌∷◌, length, codes, Option, Some}
use Rattle.std.specs.Prelude.{None, if◌then◌else◌}
use Rattle.std.specs.Option.{option_and_then, option_map}
use Rattle.std.specs.Str.{bytes_eq}
use Rattle.m_text.specs.Bytes.{is_digit}
use Rattle.m_fixed.specs.declared.operator.Op.{Op}
use Rattle.m_fixed.specs.declared.operator.Op.TheVariants.{Add, Sub, Mul, Div, Neg, Eq, Ne, Lt, Le, Gt, Ge, And, Or, Not, Present, Abs, Positive}
use Rattle.m_fixed.specs.declared.operator.Op.TheVariants.{PositiveOrNull, Null, Arr, Inf, Max, Min, Truth as TruthOf, Choose, At}
use Rattle.m_fixed.specs.Operators.{arity_of}
use Rattle.m_fixed.specs.Amounts.{most}
use Rattle.m_fixed.specs.declared.amount.Value.{Value}
use Rattle.m_fixed.specs.declared.amount.Value.TheVariants.{Undef, Num, Over}
use Rattle.reg_machine.specs.declared.instr.Instr.{Instr}
use Rattle.reg_machine.specs.declared.instr.Instr.TheVariants.{Take, Lit, Do, Store, Load, Check, Output}
use Rattle.code_file.specs.Text.{op_word}

-- a byte put before the first part
abbrev pub in_front : ℕ → List ℕ × List ℕ → List ℕ × List ℕ
in_front b parts = (b ∷ parts.0, parts.1)

-- the parts before and after the first separator, if there is one
abbrev pub cut : ℕ → List ℕ → Option (List ℕ × List ℕ)
cut mark [] = None
cut mark (b ∷ bs) = if b == mark then Some ([], bs) else option_map (in_front b) (cut mark bs)

-- a function of two optional values
abbrev pub both : {A B C : Type 0} → (A → B → C) → Option A → Option B → Option C
both f None b = None
both f (Some a) None = None
both f (Some a) (Some b) = Some (f a b)

-- a function of three optional values
abbrev pub all_three : {A B C D : Type 0} → (A → B → C → D) → Option A → Option B → Option C → Option D
all_three f None b c = None
all_three f (Some a) b c = both (f a) b c

-- ---- numbers

-- the number of these digits after those of n, if it is below the bound
abbrev pub number_after : ℕ → ℕ → List ℕ → Option ℕ
number_after below n [] = Some n
number_after below n (b ∷ bs) = if is_digit b && nat_lt (n * 10 + (b - 48)) below then number_after below (n * 10 + (b - 48)) bs else None

-- the number of a decimal text without leading zeros, if it is below the bound
abbrev pub number : ℕ → List ℕ → Option ℕ
number below [] = None
number below (b ∷ bs) = if (b == 48) && nat_lt 0 (length bs) then None else number_after below 0 (b ∷ bs)

-- a register, and a number of 32 bits
abbrev pub register : List ℕ → Option ℕ
register text = number 16 text

abbrev pub short : List ℕ → Option ℕ
short text = number 4_294_967_296 text

-- the negative number of this size; 0 has none
abbrev pub below_zero : ℕ → Option ℤ
below_zero zero = None
below_zero (suc n) = Some (negsuc n)

-- an amount in whole millionths, with `-` before a negative one
abbrev pub millionths : List ℕ → Option ℤ
millionths [] = None
millionths (b ∷ bs) = if b == 45 then option_and_then below_zero (number (suc most) bs) else option_map pos (number (suc most) (b ∷ bs))

-- a literal
abbrev pub literal : List ℕ → Option Value
literal text = if bytes_eq text (codes "undef") then Some Undef else if bytes_eq text (codes "over") then Some Over else option_map Num (millionths text)

-- ---- instructions

-- the operators
abbrev pub operators : List Op
operators = Add ∷ Sub ∷ Mul ∷ Max ∷ Min ∷ Choose ∷ Div ∷ Or ∷ And ∷ Gt ∷ Ge ∷ Lt ∷ Le ∷ Eq ∷ Ne ∷ Not ∷ Neg ∷ Present ∷ Arr ∷ Inf ∷ Positive ∷ PositiveOrNull
    ∷ Null ∷ Abs ∷ TruthOf ∷ At ∷ []

-- the first of these operators with this word
abbrev pub op_among : List Op → List ℕ → Option Op
op_among [] word = None
op_among (op ∷ ops) word = if bytes_eq word (op_word op) then Some op else op_among ops word

-- the operator instruction with these arguments, for arity n; arguments past it repeat the first
abbrev pub arguments : Op → ℕ → ℕ → List ℕ → Option Instr
arguments op n r text =
    if n == 1
    then option_map (λ a. Do op r a a a) (register text)
    else option_and_then (λ p. if n == 2
    then both (λ a b. Do op r a b a) (register p.0) (register p.1)
    else option_and_then (λ q. all_three (Do op r) (register p.0) (register q.0) (register q.1)) (cut 32 p.1)) (cut 32 text)

-- after `do`: a register, an operator and its arguments
abbrev pub done_by : ℕ → List ℕ × List ℕ → Option Instr
done_by r p = option_and_then (λ op. arguments op (arity_of op) r p.1) (op_among operators p.0)

abbrev pub operation : List ℕ × List ℕ → Option Instr
operation p = option_and_then (λ r. option_and_then (done_by r) (cut 32 p.1)) (register p.0)

-- a check
abbrev pub check : Bool → List ℕ → List ℕ → Option Instr
check over_only first text = option_and_then (λ p. all_three (λ g c label. Check g c over_only label) (register first) (register p.0) (short p.1)) (cut 32 text)

-- the instruction with this word, other than `do`
abbrev pub plain : List ℕ → List ℕ → List ℕ → Option Instr
plain word first second =
    if bytes_eq word (codes "in") then both Take (register first) (short second)
    else if bytes_eq word (codes "lit") then both Lit (register first) (literal second)
    else if bytes_eq word (codes "st") then both Store (short first) (register second)
    else if bytes_eq word (codes "ld") then both Load (register first) (short second)
    else if bytes_eq word (codes "out") then both Output (short first) (register second)
    else if bytes_eq word (codes "ck") then check false first second
    else if bytes_eq word (codes "co") then check true first second
    else None

-- the instruction of a word and the rest of its line
abbrev pub instr_by : List ℕ → List ℕ × List ℕ → Option Instr
instr_by word p = if bytes_eq word (codes "do") then operation p else plain word p.0 p.1

-- the instruction of a line
abbrev pub instr_of : List ℕ → Option Instr
instr_of line = option_and_then (λ p. option_and_then (instr_by p.0) (cut 32 p.1)) (cut 32 line)
