-- The tokens of a file, and its first error.
use Rattle.std.specs.Prelude.{◌≡◌, ◌≢◌, ◌⊎◌, ◌==◌, ℕ, ℤ, Ok, Err, ◌+◌, List, [], ◌∷◌, ◌++◌, length, count_by}
use Rattle.std.specs.List.{AllByRecursion}
use Rattle.m_fixed.specs.Text.{text_value, amount_read}
use Rattle.m_fixed.specs.declared.read.AmountFault.TheVariants.{TooGreat}
use Rattle.m_places.specs.declared.place.Place.{Place}
use Rattle.m_lexer.specs.declared.token.Key.{Key}
use Rattle.m_lexer.specs.declared.token.Kind.{Kind}
use Rattle.m_lexer.specs.declared.token.Kind.TheVariants as kinds
use Rattle.m_lexer.specs.declared.token.Token.{Token}
use Rattle.m_lexer.specs.declared.fault.LexFault.{LexFault}
use Rattle.m_lexer.specs.declared.fault.LexFault.TheVariants.{BadByte, OpenString, NumberTooGreat, Memory}
use Rattle.m_lexer.specs.declared.token.Sign.{Sign}
use Rattle.m_text.specs.Bytes.{quote, line_feed}
use Rattle.m_text.specs.Words.{IsComment, IsWord, IsNumber, IsQuoted, LongestOf}
use Rattle.m_lexer.specs.Spellings.{IsPiece, IsBlank, sign_spelling, key_spelling}

-- the start of a file: byte 0, line 1
abbrev pub start_of : ℕ → Place
start_of file = record { file = file; byte = 0; line = 1 }

-- The position after a text: its length in bytes further, and one line further for each of its line
-- feeds. After two bytes, one of them a line feed, the start of a file becomes byte 2, line 2.
abbrev pub behind : List ℕ → Place → Place
behind t p = record { file = p.file; byte = p.byte + length t; line = p.line + count_by (λ b. b == line_feed) t }

-- t is the longest piece at the start of bytes, and rest follows it: in `sinon 1` it is `sinon`,
-- and ` 1` follows it
abbrev pub Longest : List ℕ → List ℕ → List ℕ → Type 0
Longest bytes t rest = LongestOf IsPiece bytes t rest

-- the text between tokens: a blank byte or a comment
abbrev pub IsGap : List ℕ → Type 0
IsGap t = IsBlank t ⊎ IsComment t

-- a number that is above the greatest amount after rounding at the sixth decimal
abbrev pub IsTooGreat : List ℕ → Type 0
IsTooGreat t = IsNumber t × (amount_read (text_value t) ≡ Err TooGreat)

-- The text spells a token of this kind: a word that isn't reserved, a reserved word, a number with
-- its amount, a text with the bytes between its quotes, or a sign.
pub data Spells : List ℕ → Kind → Type 0 where
  word : {t : List ℕ} → IsWord t → ((k : Key) → t ≢ key_spelling k) → Spells t (kinds.Word t)
  key : {t : List ℕ} {k : Key} → IsWord t → t ≡ key_spelling k → Spells t (kinds.Key k)
  number : {t : List ℕ} {z : ℤ} → IsNumber t → amount_read (text_value t) ≡ Ok z → Spells t (kinds.Number z t)
  text : {t inside : List ℕ} → IsQuoted t inside → Spells t (kinds.Text inside)
  sign : {t : List ℕ} {s : Sign} → t ≡ sign_spelling s → Spells t (kinds.Sign s)

-- The bytes from a position to the end of the file are a sequence of gaps and tokens, each the
-- longest piece at its start; these are the tokens, with their positions.
pub data Lexes : Place → List ℕ → List Token → Type 0 where
  end : {p : Place} → Lexes p [] []
  gap : {p : Place} {bytes t rest : List ℕ} {tokens : List Token} → Longest bytes t rest → IsGap t →
      Lexes (behind t p) rest tokens → Lexes p bytes tokens
  token : {p : Place} {bytes t rest : List ℕ} {kind : Kind} {tokens : List Token} → Longest bytes t rest → Spells t kind →
      Lexes (behind t p) rest tokens → Lexes p bytes (record { kind = kind; place = p } ∷ tokens)

-- no piece of any length begins here
abbrev pub NoPiece : List ℕ → Type 0
NoPiece bytes = (t others : List ℕ) → bytes ≡ t ++ others → IsPiece t → ⊥

-- The first error from a position on: after gaps and tokens there is a byte at which no piece
-- begins, a quote that isn't closed, or a number that is too great.
pub data FirstFault : Place → List ℕ → LexFault → Type 0 where
  bad_byte : {p : Place} {b : ℕ} {bytes : List ℕ} → b ≢ quote → NoPiece (b ∷ bytes) → FirstFault p (b ∷ bytes) (BadByte p)
  open_string : {p : Place} {bytes : List ℕ} (inside : List ℕ) → bytes ≡ quote ∷ inside → AllByRecursion (λ b. b ≢ quote) inside
      → FirstFault p bytes (OpenString p)
  too_great : {p : Place} {bytes t rest : List ℕ} → Longest bytes t rest → IsTooGreat t → FirstFault p bytes (NumberTooGreat p)
  gap : {p : Place} {bytes t rest : List ℕ} {fault : LexFault} → Longest bytes t rest → IsGap t →
      FirstFault (behind t p) rest fault → FirstFault p bytes fault
  token : {p : Place} {bytes t rest : List ℕ} {kind : Kind} {fault : LexFault} → Longest bytes t rest → Spells t kind →
      FirstFault (behind t p) rest fault → FirstFault p bytes fault

-- A token is at its position: its spelling is there, and the position is the one after the text
-- before it.
pub record IsTokenOf (p : Place) (bytes : List ℕ) (token : Token) : Type 0 where
  pub before : List ℕ
  pub spelling : List ℕ
  pub others : List ℕ
  pub parts : bytes ≡ before ++ (spelling ++ others)
  pub spells : Spells spelling token.kind
  pub placed : token.place ≡ behind before p

-- the error is one of the file, at this position
abbrev pub IsFaultAt : Place → LexFault → Type 0
IsFaultAt p (BadByte q) = q ≡ p
IsFaultAt p (OpenString q) = q ≡ p
IsFaultAt p (NumberTooGreat q) = q ≡ p
IsFaultAt p Memory = ⊥
