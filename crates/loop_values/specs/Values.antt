-- The values of an index, in the order of the source.
use Rattle.std.specs.Prelude.{ℕ, ◌+◌, ◌-◌, Bool, true, false, ◌&&◌, List, [], ◌∷◌, ◌++◌, map, length, replicate, nat_le, slice_index, decimal, if◌then◌else◌}
use Rattle.std.specs.Option.{option_map_or}
use Rattle.std.specs.Str.Parse.{digits_value}
use Rattle.std.specs.List.{flat_map, range_with_len}
use Rattle.m_fixed.specs.Text.{is_digits}
use Rattle.m_ast.specs.declared.header.Index.{Index}
use Rattle.m_ast.specs.declared.header.Span.{Span}

-- one to nine digits, and nothing else
abbrev pub is_whole : List ℕ → Bool
is_whole word = is_digits word && nat_le (length word) 9

-- one letter from A to Z, and nothing else
abbrev pub is_capital : List ℕ → Bool
is_capital [] = false
is_capital (byte ∷ []) = nat_le 65 byte && nat_le byte 90
is_capital (byte ∷ next ∷ rest) = false

-- a number, padded with zeros to at least `width` digits: 8 with width 2 is `08`, 123 with width 2
-- is `123`
abbrev pub number_word : ℕ → ℕ → List ℕ
number_word width n = replicate (width - length (decimal n)) 48 ++ decimal n

abbrev pub letter_word : ℕ → List ℕ
letter_word letter = letter ∷ []

-- the numbers from low to high; none if high is below low
abbrev pub from_to : ℕ → ℕ → List ℕ
from_to low high = range_with_len low (high + 1 - low)

abbrev pub numbers_between : List ℕ → List ℕ → List (List ℕ)
numbers_between from to = map (number_word (length from)) (from_to (digits_value 10 from) (digits_value 10 to))

abbrev pub letters_between : List ℕ → List ℕ → List (List ℕ)
letters_between from to = map letter_word (from_to (slice_index from 0) (slice_index to 0))

-- The values from one to another. Two whole numbers give the numbers from the low one to the high
-- one, each padded to the digits of the low one: `8..10` is 8, 9, 10, and `08..10` is 08, 09, 10. Two
-- single letters give a range of letters: `A..C` is A, B, C. Any other span has no values, which makes
-- it a bad range.
abbrev pub values_between : List ℕ → List ℕ → List (List ℕ)
values_between from to =
    if is_whole from && is_whole to then numbers_between from to
    else if is_capital from && is_capital to then letters_between from to
    else []

abbrev pub span_values : Span → List (List ℕ)
span_values span = option_map_or (values_between span.from) span.to (span.from ∷ [])

-- the values of an index: V, 1, 2 for `i = V, 1..2`
abbrev pub index_values : Index → List (List ℕ)
index_values index = flat_map span_values index.values

-- whether a list is empty
abbrev pub is_nothing : {A : Type 0} → List A → Bool
is_nothing [] = true
is_nothing (a ∷ rest) = false

abbrev pub is_bad_span : Span → Bool
is_bad_span span = is_nothing (span_values span)
