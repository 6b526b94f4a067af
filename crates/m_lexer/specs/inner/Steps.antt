-- From one position of a file to a later one.
use Rattle.std.specs.Prelude.{◌≡◌, ◌≢◌, ◌⊎◌, ℕ, ◌+◌, ◌<◌, ◌≤◌, List, [], ◌∷◌, ◌++◌, length, drop, slice_index}
use Rattle.m_places.specs.declared.place.Place.{Place}
use Rattle.m_lexer.specs.declared.token.Kind.{Kind}
use Rattle.m_lexer.specs.declared.token.Token.{Token}
use Rattle.m_lexer.specs.declared.fault.LexFault.{LexFault}
use Rattle.m_lexer.specs.declared.token.Sign.{Sign}
use Rattle.m_text.specs.Bytes.{IsBlankByte, hash}
use Rattle.m_lexer.specs.Spellings.{sign_spelling}
use Rattle.m_lexer.specs.Tokens.{Lexes, FirstFault}

-- the text from a position to the end of the file
abbrev pub left : List ℕ → Place → List ℕ
left bytes p = drop p.byte bytes

-- the byte at a position, or 0 at the end of the file
abbrev pub byte_at : List ℕ → Place → ℕ
byte_at bytes p = slice_index bytes p.byte

-- the position is in the file, and its line number is possible there
pub record IsPlaceIn (bytes : List ℕ) (p : Place) : Type 0 where
  pub within : p.byte ≤ length bytes
  pub lines : p.line ≤ p.byte + 1

-- a later position, `lines` lines further down
abbrev pub further : Place → ℕ → ℕ → Place
further p byte lines = record { file = p.file; byte = byte; line = p.line + lines }

-- From p the file has the tokens `between`, and then those from q; and its first error from p is
-- the one from q.
pub record GoesOn (bytes : List ℕ) (p : Place) (between : List Token) (q : Place) : Type 0 where
  pub lists : (tokens : List Token) → Lexes q (left bytes q) tokens → Lexes p (left bytes p) (between ++ tokens)
  pub faults : (fault : LexFault) → FirstFault q (left bytes q) fault → FirstFault p (left bytes p) fault

-- a gap begins with this byte
abbrev pub BeginsGap : ℕ → Type 0
BeginsGap b = IsBlankByte b ⊎ (b ≡ hash)

-- a token of this kind is between two positions
abbrev pub TokenBetween : List ℕ → Place → Kind → Place → Type 0
TokenBetween bytes p kind q = GoesOn bytes p (record { kind = kind; place = p } ∷ []) q

-- no sign begins at a position
pub record NoSign (bytes : List ℕ) (p : Place) : Type 0 where
  pub one : (s : Sign) → sign_spelling s ≢ byte_at bytes p ∷ []
  pub two : p.byte + 1 < length bytes → (s : Sign) → sign_spelling s ≢ byte_at bytes p ∷ slice_index bytes (p.byte + 1) ∷ []
