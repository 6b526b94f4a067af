-- What the types guarantee about an instruction that was read.
use Rattle.reg_machine.specs.declared.instr.Instr.{Instr}
use Rattle.reg_machine.specs.declared.instr.Instr.TheVariants.{Take, Lit, Do, Store, Load, Check, Output}
use Rattle.code_file.specs.Reading.{IsShort, IsLiteral}

-- operands other than registers fit 32 bits, and a literal that is a number is an amount
abbrev pub IsReadInstr : Instr → Type 0
IsReadInstr (Take r n) = IsShort n
IsReadInstr (Lit r v) = IsLiteral v
IsReadInstr (Do op r a b c) = Unit {0}
IsReadInstr (Store k r) = IsShort k
IsReadInstr (Load r k) = IsShort k
IsReadInstr (Check g c over_only number) = IsShort number
IsReadInstr (Output k r) = IsShort k
