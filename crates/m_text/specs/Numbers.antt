-- Whole numbers of a few digits.
use Rattle.std.specs.Prelude.{ℕ, cond, ◌&&◌, nat_lt, nat_le, List, length, Option, Some, None}
use Rattle.std.specs.List.{list_all}
use Rattle.std.specs.Str.Parse.{digits_value}
use Rattle.m_text.specs.Bytes.{is_digit}

-- The number that one to nine digits denote: `010` is 10, and `1.0` and `1234567890` are none.
unfoldable pub whole_number : List ℕ → Option ℕ
whole_number text = cond ((list_all is_digit text && nat_lt 0 (length text)) && nat_le (length text) 9) (Some (digits_value 10 text)) None
