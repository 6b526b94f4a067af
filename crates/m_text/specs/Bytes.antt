-- Kinds of bytes, and runs of one kind.
use Rattle.std.specs.Prelude.{◌≡◌, ◌⊎◌, ℕ, ◌≤◌, ◌<◌, nat_le, Bool, ◌&&◌, List, length, slice_index}

-- the byte that terminates a line
abbrev pub line_feed : ℕ
line_feed = 10

-- the byte that is dropped right before a line feed
abbrev pub carriage_return : ℕ
carriage_return = 13

-- the byte `"`
abbrev pub quote : ℕ
quote = 34

-- the byte `#`
abbrev pub hash : ℕ
hash = 35

-- the byte `.`
abbrev pub point : ℕ
point = 46

-- the byte of a blank
abbrev pub space : ℕ
space = 32

-- a letter of ASCII: `A` to `Z`, `a` to `z`
abbrev pub IsLetter : ℕ → Type 0
IsLetter b = ((65 ≤ b) × (b ≤ 90)) ⊎ ((97 ≤ b) × (b ≤ 122))

-- `0` to `9`
abbrev pub IsDigit : ℕ → Type 0
IsDigit b = (48 ≤ b) × (b ≤ 57)

-- whether a byte is one of `0` to `9`
abbrev pub is_digit : ℕ → Bool
is_digit b = nat_le 48 b && nat_le b 57

-- a letter, a digit or `_`
abbrev pub IsWordByte : ℕ → Type 0
IsWordByte b = IsLetter b ⊎ (IsDigit b ⊎ (b ≡ 95))

-- a space, a tab, a carriage return or a line feed
abbrev pub IsBlankByte : ℕ → Type 0
IsBlankByte b = (b ≡ 32) ⊎ ((b ≡ 9) ⊎ ((b ≡ carriage_return) ⊎ (b ≡ line_feed)))

-- A maximal run: the bytes between the positions are all of the kind, and the next one, if any, is
-- not. In `12 a` the digits run from position 0 to 2, and from position 2 to 2.
pub record RunsTo (P : ℕ → Type 0) (bytes : List ℕ) (from to : ℕ) : Type 0 where
  pub onward : from ≤ to
  pub within : to ≤ length bytes
  pub each : (k : ℕ) → from ≤ k → k < to → P (slice_index bytes k)
  pub stops : to < length bytes → P (slice_index bytes to) → ⊥
