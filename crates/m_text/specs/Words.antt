-- The spelling of words, numbers, quoted texts and comments, as lists of bytes. Words and numbers
-- are the same in rules and in drivers.
use Rattle.std.specs.Prelude.{◌≡◌, ◌≢◌, ◌⊎◌, ℕ, ◌<◌, ◌≤◌, List, [], ◌∷◌, ◌++◌, length, drop, slice_range}
use Rattle.std.specs.List.{AllByRecursion}
use Rattle.m_text.specs.Bytes.{IsDigit, IsWordByte, hash, line_feed, point, quote}
use Rattle.m_text.specs.declared.words.WordOrNumber.{WordOrNumber}
use Rattle.m_text.specs.declared.words.WordOrNumber.TheVariants.{Word, Number}

-- letters, digits and `_`, not digits alone: `REV`, `1AJ`, `1_000`, `_`
abbrev pub IsWord : List ℕ → Type 0
IsWord t = AllByRecursion IsWordByte t × (AllByRecursion IsDigit t → ⊥)

-- one or more digits: `08`
abbrev pub AreDigits : List ℕ → Type 0
AreDigits t = (t ≢ []) × AllByRecursion IsDigit t

-- digits, a point and digits: `2.50`
abbrev pub IsDecimal : List ℕ → Type 0
IsDecimal t = (whole decimals : List ℕ) × AreDigits whole × AreDigits decimals × (t ≡ whole ++ point ∷ decimals)

-- digits, optionally with a point and digits
abbrev pub IsNumber : List ℕ → Type 0
IsNumber t = AreDigits t ⊎ IsDecimal t

-- the tokens that may begin with a letter, a digit or `_`
abbrev pub IsWordOrNumber : List ℕ → Type 0
IsWordOrNumber t = IsWord t ⊎ IsNumber t

-- the bytes between two quotes, of any kind but a quote: `""`, `"n"`
abbrev pub IsQuoted : List ℕ → List ℕ → Type 0
IsQuoted t inside = AllByRecursion (λ b. b ≢ quote) inside × (t ≡ quote ∷ (inside ++ quote ∷ []))

-- `#` and bytes of any kind but a line feed
abbrev pub IsComment : List ℕ → Type 0
IsComment t = (bytes : List ℕ) × AllByRecursion (λ b. b ≢ line_feed) bytes × (t ≡ hash ∷ bytes)

-- t is the longest text of a kind at the start of bytes, and rest follows it: in `sinon 1` the
-- longest word is `sinon`, and ` 1` follows it
pub record LongestOf (P : List ℕ → Type 0) (bytes t rest : List ℕ) : Type 0 where
  pub parts : bytes ≡ t ++ rest
  pub piece : P t
  pub longest : (u others : List ℕ) → bytes ≡ u ++ others → P u → length u ≤ length t

-- the bytes between the positions are the longest word or number that begins at the first
pub record LongestBetween (bytes : List ℕ) (from end : ℕ) : Type 0 where
  pub onward : from < end
  pub within : end ≤ length bytes
  pub longest : LongestOf IsWordOrNumber (drop from bytes) (slice_range bytes from end) (drop end bytes)

-- the longest word or number that begins at a position, by its end
abbrev pub BeginsAt : List ℕ → ℕ → WordOrNumber → Type 0
BeginsAt bytes from (Word end) = LongestBetween bytes from end × IsWord (slice_range bytes from end)
BeginsAt bytes from (Number end) = LongestBetween bytes from end × IsNumber (slice_range bytes from end)
