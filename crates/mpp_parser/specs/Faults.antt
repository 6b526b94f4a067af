-- The driver that bytes parse to, or the error for which they are rejected.
use Rattle.std.specs.Prelude.{◌≡◌, ℕ, List, [], ◌∷◌}
use Rattle.m_text.specs.Lines.{lines_of}
use Rattle.mpp_lexer.specs.declared.piece.Line.{Line}
use Rattle.mpp_lexer.specs.declared.fault.DriverFault.{DriverFault}
use Rattle.mpp_lexer.specs.declared.fault.DriverFault.TheVariants.{DriverToken, DriverTooDeep, DriverSyntax, Memory}
use Rattle.mpp_lexer.specs.Lines.{Lexes, FirstBadToken}
use Rattle.mpp_parser.specs.declared.command.Driver.{Driver}
use Rattle.mpp_parser.specs.Depths.{FirstTooDeep, Shallow}
use Rattle.mpp_parser.specs.Drivers.{SpellsDriver, IsLongest}

-- the bytes have these lines with tokens
abbrev pub HasLines : List ℕ → List Line → Type 0
HasLines bytes ls = Lexes 1 (lines_of bytes) ls

-- the bytes parse to the driver: they have lines, none of them is too deep, and all of them spell
-- it
pub record IsDriver (bytes : List ℕ) (driver : Driver) : Type 0 where
  pub lines : List Line
  pub lexed : HasLines bytes lines
  pub shallow : Shallow [] lines
  pub spelled : SpellsDriver driver lines []

-- The line with this number is the first after the longest prefix of the lines that is a driver.
-- For `main():` alone that prefix is empty, so it is line 1.
pub record StopsAt (lines : List Line) (number : ℕ) : Type 0 where
  pub driver : Driver
  pub line : Line
  pub others : List Line
  pub spelled : SpellsDriver driver lines (line ∷ others)
  pub longest : IsLongest lines (line ∷ others)
  pub numbered : number ≡ line.number

-- an error of lines
abbrev pub IsLineFault : List Line → DriverFault → Type 0
IsLineFault lines (DriverToken n) = ⊥
IsLineFault lines (DriverTooDeep n) = FirstTooDeep [] lines n
IsLineFault lines (DriverSyntax n) = Shallow [] lines × StopsAt lines n
IsLineFault lines Memory = ⊥

-- an error of bytes: of their tokens, or else of their lines
abbrev pub IsFault : List ℕ → DriverFault → Type 0
IsFault bytes (DriverToken n) = FirstBadToken 1 (lines_of bytes) n
IsFault bytes (DriverTooDeep n) = (lines : List Line) × HasLines bytes lines × FirstTooDeep [] lines n
IsFault bytes (DriverSyntax n) = (lines : List Line) × HasLines bytes lines × Shallow [] lines × StopsAt lines n
IsFault bytes Memory = ⊥
