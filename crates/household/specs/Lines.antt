-- Where lines end.
use Rattle.std.specs.Prelude.{◌≡◌, ℕ, ◌==◌, List, [], ◌∷◌, true, false}
use Rattle.std.specs.List.{list_any}
use Rattle.csv.specs.Machine.{ends_with}
use Rattle.csv.specs.declared.parser.Terminator.TheVariants as term

-- no byte is a quotation mark
abbrev pub HasNoQuote : List ℕ → Type 0
HasNoQuote bytes = list_any (λ byte. byte == 34) bytes ≡ false

-- bytes that are empty or begin with a line end
abbrev pub IsLineEnd : List ℕ → Type 0
IsLineEnd [] = Unit {0}
IsLineEnd (byte ∷ bytes) = ends_with term.CRLF byte ≡ true
