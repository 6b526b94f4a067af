-- The tokens of one line of a driver.
use Rattle.std.specs.Prelude.{◌≡◌, ◌≢◌, ◌==◌, ℕ, ◌+◌, ℤ, Ok, Err, List, [], ◌∷◌, ◌++◌, codes, if◌then◌else◌}
use Rattle.m_fixed.specs.Text.{text_value, amount_read}
use Rattle.m_fixed.specs.declared.read.AmountFault.TheVariants.{TooGreat}
use Rattle.m_text.specs.Bytes.{hash, space}
use Rattle.m_text.specs.Words.{IsWord, IsNumber, LongestOf}
use Rattle.mpp_lexer.specs.declared.piece.DriverSign.{DriverSign}
use Rattle.mpp_lexer.specs.declared.piece.DriverSign.TheVariants.{OpenParen, CloseParen, OpenBracket, CloseBracket, Comma, Colon, Assign, Equal, NotEqual, Less}
use Rattle.mpp_lexer.specs.declared.piece.DriverSign.TheVariants.{LessEqual, Greater, GreaterEqual, Plus, Minus, Star, Slash, Receive}
use Rattle.mpp_lexer.specs.declared.piece.DriverPiece.{DriverPiece}
use Rattle.mpp_lexer.specs.declared.piece.DriverPiece.TheVariants.{Word, Number, Sign}

-- the spelling of each sign
abbrev pub sign_spelling : DriverSign → List ℕ
sign_spelling OpenParen = codes "("
sign_spelling CloseParen = codes ")"
sign_spelling OpenBracket = codes "["
sign_spelling CloseBracket = codes "]"
sign_spelling Comma = codes ","
sign_spelling Colon = codes ":"
sign_spelling Assign = codes "="
sign_spelling Equal = codes "=="
sign_spelling NotEqual = codes "!="
sign_spelling Less = codes "<"
sign_spelling LessEqual = codes "<="
sign_spelling Greater = codes ">"
sign_spelling GreaterEqual = codes ">="
sign_spelling Plus = codes "+"
sign_spelling Minus = codes "-"
sign_spelling Star = codes "*"
sign_spelling Slash = codes "/"
sign_spelling Receive = codes "<-"

-- the texts of tokens, including numbers that are too great
pub data IsToken : List ℕ → Type 0 where
  word : {t : List ℕ} → IsWord t → IsToken t
  number : {t : List ℕ} → IsNumber t → IsToken t
  sign : {t : List ℕ} (s : DriverSign) → t ≡ sign_spelling s → IsToken t

-- The text spells the token: a word, a number with its rounded amount, or a sign.
pub data Spells : List ℕ → DriverPiece → Type 0 where
  word : {t : List ℕ} → IsWord t → Spells t (Word t)
  number : {t : List ℕ} {z : ℤ} → IsNumber t → amount_read (text_value t) ≡ Ok z → Spells t (Number z t)
  sign : {t : List ℕ} {s : DriverSign} → t ≡ sign_spelling s → Spells t (Sign s)

-- a number above the greatest amount once rounded at the sixth decimal
abbrev pub IsTooGreat : List ℕ → Type 0
IsTooGreat t = IsNumber t × (amount_read (text_value t) ≡ Err TooGreat)

-- no prefix of the bytes is a token
abbrev pub NoToken : List ℕ → Type 0
NoToken bytes = (t others : List ℕ) → bytes ≡ t ++ others → IsToken t → ⊥

-- The tokens of a line. They may be separated by spaces, a comment extends from `#` to the end of the
-- line, and each token is the longest at its position: `A <-1 # now` has the tokens `A`, `<-` and
-- `1`.
pub data TokensOf : List ℕ → List DriverPiece → Type 0 where
  end : TokensOf [] []
  comment : {bytes rest : List ℕ} → bytes ≡ hash ∷ rest → TokensOf bytes []
  blank : {bytes rest : List ℕ} {tokens : List DriverPiece} → bytes ≡ space ∷ rest → TokensOf rest tokens → TokensOf bytes tokens
  token : {bytes t rest : List ℕ} {p : DriverPiece} {tokens : List DriverPiece} → LongestOf IsToken bytes t rest → Spells t p →
      TokensOf rest tokens → TokensOf bytes (p ∷ tokens)

-- After spaces and tokens, and outside of a comment, there is a byte at which no token begins, or a
-- number that is too great: a tab, a single `!`, or `10000000000001`.
pub data HasBadToken : List ℕ → Type 0 where
  no_token : {b : ℕ} {bytes rest : List ℕ} → bytes ≡ b ∷ rest → b ≢ space → b ≢ hash → NoToken bytes → HasBadToken bytes
  too_great : {bytes t rest : List ℕ} → LongestOf IsToken bytes t rest → IsTooGreat t → HasBadToken bytes
  blank : {bytes rest : List ℕ} → bytes ≡ space ∷ rest → HasBadToken rest → HasBadToken bytes
  token : {bytes t rest : List ℕ} {p : DriverPiece} → LongestOf IsToken bytes t rest → Spells t p →
      HasBadToken rest → HasBadToken bytes

-- the number of leading spaces of a line
abbrev pub spaces : List ℕ → ℕ
spaces [] = 0
spaces (b ∷ bytes) = if b == space then 1 + spaces bytes else 0
