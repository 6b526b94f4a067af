-- The bindings of letters within loops, and the substitution of letters in words.
use Rattle.std.specs.Prelude.{ℕ, List, [], ◌∷◌, Option, None, Some, replicate, slice_set, slice_index_or, unwrap_or}
use Rattle.std.specs.List.{flat_map}

-- For each byte the value of the letter; none if no loop binds it.
abbrev pub Letters : Type 0
Letters = List (Option (List ℕ))

-- outside of all loops
abbrev pub no_letters : Letters
no_letters = replicate 256 None

-- the same bindings, but with this letter bound to this value
abbrev pub bind : Letters → ℕ → List ℕ → Letters
bind letters letter value = slice_set letters letter (Some value)

-- the replacement of a byte of a word
abbrev pub byte_replaced : Letters → ℕ → List ℕ
byte_replaced letters byte = unwrap_or (slice_index_or letters byte None) (byte ∷ [])

-- The word with each bound letter replaced by its value: `REVi` with i bound to `12` is `REV12`.
abbrev pub replaced : Letters → List ℕ → List ℕ
replaced letters word = flat_map (byte_replaced letters) word
