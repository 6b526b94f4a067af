-- Amounts as text: `-`, digits, a point and decimals.
use Rattle.std.specs.Prelude.{◌≡◌, ℕ, zero, suc, ◌+◌, ◌*◌, ◌/◌, ◌%◌, ◌^◌, Bool, ◌&&◌, ◌==◌, nat_lt, nat_le, if◌then◌else◌, List, [], ◌∷◌, ◌++◌, length, take}
use Rattle.std.specs.Prelude.{drop, ℤ, unsigned_abs, Option, Some, None, option_map, Result, Ok, Err, decimal}
use Rattle.std.specs.Char.{is_ascii_digit}
use Rattle.std.specs.Int.{is_negative}
use Rattle.std.specs.List.{list_all}
use Rattle.std.specs.Str.Parse.{digits_value, starts_with_minus}
use Rattle.m_fixed.specs.declared.read.AmountFault.{AmountFault}
use Rattle.m_fixed.specs.declared.read.AmountFault.TheVariants.{NotAnAmount, TooGreat}
use Rattle.m_fixed.specs.Amounts.{unit, most}
use Rattle.m_fixed.specs.Rounding.{nearest, signed}

-- '-' and '.'
abbrev pub minus : ℕ
minus = 45

abbrev pub point : ℕ
point = 46

-- digits alone; the empty text too
abbrev pub only_digits : List ℕ → Bool
only_digits text = list_all is_ascii_digit text

-- one digit or more, and nothing else
abbrev pub is_digits : List ℕ → Bool
is_digits text = only_digits text && nat_lt 0 (length text)

-- the text before the first point
abbrev pub before_point : List ℕ → List ℕ
before_point [] = []
before_point (c ∷ text) = if c == point then [] else c ∷ before_point text

-- the text after the first point, if there is one
abbrev pub behind_point : List ℕ → Option (List ℕ)
behind_point [] = None
behind_point (c ∷ text) = if c == point then Some text else behind_point text

-- the millionths that the digits before and after a point spell, rounded at the sixth decimal,
-- halves up
abbrev pub millionths_of : List ℕ → List ℕ → ℕ
millionths_of whole decimals = nearest (digits_value 10 (whole ++ decimals) * unit) (10 ^ length decimals)

-- the same, if both parts are digits
abbrev pub parts_value : List ℕ → Option (List ℕ) → Option ℕ
parts_value whole None = if is_digits whole then Some (millionths_of whole []) else None
parts_value whole (Some decimals) = if is_digits whole && is_digits decimals then Some (millionths_of whole decimals) else None

-- the millionths that an unsigned number denotes: `12`, `08`, `0.10`; none for `.5`, `1.` or `1e3`
unfoldable pub number_value : List ℕ → Option ℕ
number_value text = parts_value (before_point text) (behind_point text)

-- a text without the minus at its start, if it has one
abbrev pub without_minus : List ℕ → List ℕ
without_minus text = if starts_with_minus text then drop 1 text else text

-- the millionths that an amount denotes: a number, optionally after a minus
unfoldable pub text_value : List ℕ → Option ℤ
text_value text = option_map (signed (starts_with_minus text)) (number_value (without_minus text))

-- the result of reading a number with this value
abbrev pub number_read : Option ℕ → Result ℕ AmountFault
number_read None = Err NotAnAmount
number_read (Some n) = if nat_le n most then Ok n else Err TooGreat

-- the result of reading an amount with this value
abbrev pub amount_read : Option ℤ → Result ℤ AmountFault
amount_read None = Err NotAnAmount
amount_read (Some z) = if nat_le (unsigned_abs z) most then Ok z else Err TooGreat

-- the decimals of `fraction` out of 10 ^ places, without zeros at the end
unfoldable pub decimals_of : ℕ → ℕ → List ℕ
decimals_of zero fraction = []
decimals_of (suc places) fraction =
    if fraction == 0 then [] else (48 + fraction / 10 ^ places) ∷ decimals_of places (fraction % 10 ^ places)

-- a point and the decimals, if there are any
abbrev pub fraction_text : ℕ → List ℕ
fraction_text fraction = if fraction == 0 then [] else point ∷ decimals_of 6 fraction

-- the whole units without leading zeros, and the decimals without zeros at the end
unfoldable pub size_text : ℕ → List ℕ
size_text n = decimal (n / unit) ++ fraction_text (n % unit)

-- the printed form of an amount in millionths: 1500500 gives `1.5005`,
-- -500000 gives `-0.5`, 0 gives `0`
unfoldable pub printed : ℤ → List ℕ
printed z = if is_negative z then minus ∷ size_text (unsigned_abs z) else size_text (unsigned_abs z)

-- `new` is `old` with the text written from the position `from` to the position `end`
pub record Writes (old new : List ℕ) (from : ℕ) (text : List ℕ) (end : ℕ) : Type 0 where
  pub length : end ≡ from + length text
  pub front : take end new ≡ take from old ++ text
  pub rest : drop end new ≡ drop end old
