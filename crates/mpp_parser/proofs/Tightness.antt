-- How tightly tokens bind to what precedes them.
use Rattle.std.proofs.Common.{◌<◌, ℕ, List, [], ◌∷◌, Option, Some}
use Rattle.mpp_lexer.specs.declared.piece.DriverPiece.{DriverPiece}
use Rattle.mpp_lexer.specs.declared.piece.DriverPiece.TheVariants.{Word, Sign}
use Rattle.mpp_lexer.specs.declared.piece.DriverSign.TheVariants.{OpenBracket, Star, Slash, Plus, Minus, Equal, NotEqual, Less, LessEqual, Greater}
use Rattle.mpp_lexer.specs.declared.piece.DriverSign.TheVariants.{GreaterEqual}
use Rattle.mpp_parser.specs.declared.keyword.Keyword.{Keyword}
use Rattle.mpp_parser.specs.declared.keyword.Keyword.TheVariants.{And, Or}
use Rattle.mpp_parser.specs.Keywords.{keyword_of}

abbrev pub key_tightness : Option Keyword → ℕ
key_tightness (Some And) = 2
key_tightness (Some Or) = 1
key_tightness _ = 0

-- how tightly a token binds to what precedes it: 0 if it ends a term
abbrev pub tightness : DriverPiece → ℕ
tightness (Sign OpenBracket) = 6
tightness (Sign Star) = 5
tightness (Sign Slash) = 5
tightness (Sign Plus) = 4
tightness (Sign Minus) = 4
tightness (Sign Equal) = 3
tightness (Sign NotEqual) = 3
tightness (Sign Less) = 3
tightness (Sign LessEqual) = 3
tightness (Sign Greater) = 3
tightness (Sign GreaterEqual) = 3
tightness (Word w) = key_tightness (keyword_of w)
tightness _ = 0

abbrev pub tight : List DriverPiece → ℕ
tight [] = 0
tight (t ∷ ts) = tightness t

-- the next token binds less than k
abbrev pub Below : ℕ → List DriverPiece → Type 0
Below k ts = tight ts < k
