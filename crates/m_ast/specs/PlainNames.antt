-- Instances of words: each letter of a word has a value, and the rest of it stays.
use Rattle.std.specs.Prelude.{ℕ, ◌==◌, List, [], ◌∷◌, Option, None, Some, unwrap_or, if◌then◌else◌}
use Rattle.std.specs.List.{flat_map}

-- the value of a byte among pairs: that of the first pair with the byte, if any
abbrev pub paired : List (ℕ × List ℕ) → ℕ → Option (List ℕ)
paired [] byte = None
paired (pair ∷ rest) byte = if pair.0 == byte then Some pair.1 else paired rest byte

-- a byte, replaced by its value if it has one
abbrev pub byte_spelled : List (ℕ × List ℕ) → ℕ → List ℕ
byte_spelled values byte = unwrap_or (paired values byte) (byte ∷ [])

-- The word with each byte replaced by its value: `REVi` with the value `12` of `i` is `REV12`.
abbrev pub spelled : List (ℕ × List ℕ) → List ℕ → List ℕ
spelled values word = flat_map (byte_spelled values) word
