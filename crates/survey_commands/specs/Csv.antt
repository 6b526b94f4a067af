-- A field of CSV that may have any bytes.
use Rattle.std.specs.Prelude.{ℕ, ◌==◌, Bool, ◌||◌, List, [], ◌∷◌, if◌then◌else◌}
use Rattle.std.specs.List.{flat_map, list_any}
use Rattle.m_text.specs.Pieces.{joined}

-- a quotation mark
abbrev pub quote : List ℕ
quote = 34 ∷ []

-- whether a field with this byte is quoted: a comma, a quotation mark or a carriage return
abbrev pub is_special : ℕ → Bool
is_special byte = (byte == 44) || (byte == 34) || (byte == 13)

-- a byte between quotes: a quotation mark is doubled
abbrev pub quoted_byte : ℕ → List ℕ
quoted_byte byte = if byte == 34 then 34 ∷ 34 ∷ [] else byte ∷ []

abbrev pub quoted_bytes : List ℕ → List ℕ
quoted_bytes bytes = flat_map quoted_byte bytes

-- A field with these bytes, quoted if necessary: `dupont` as it is, `a, b` as `"a, b"`, and `a"b` as `"a""b"`.
abbrev pub field_text : List ℕ → List ℕ
field_text bytes = if list_any is_special bytes then joined (quote ∷ quoted_bytes bytes ∷ quote ∷ []) else bytes
