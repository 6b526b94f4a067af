-- Names as lists of bytes, equal if their bytes are.
use Rattle.std.specs.Prelude.{◌≡◌, ℕ, ◌+◌, Bool, false, ◌||◌, List, [], ◌∷◌, Option, Some, None, if◌then◌else◌}
use Rattle.std.specs.Option.{option_map}
use Rattle.std.specs.Str.{bytes_eq}

-- whether a name is among names
abbrev pub has : List ℕ → List (List ℕ) → Bool
has name [] = false
has name (n ∷ ns) = bytes_eq name n || has name ns

-- the number of a name among names, from 0: the index of its first occurrence, if any
abbrev pub index_of : List ℕ → List (List ℕ) → Option ℕ
index_of name [] = None
index_of name (n ∷ ns) = if bytes_eq name n then Some 0 else option_map (λ i. i + 1) (index_of name ns)

-- no name occurs twice
abbrev pub AreDistinct : List (List ℕ) → Type 0
AreDistinct [] = Unit {0}
AreDistinct (n ∷ ns) = (has n ns ≡ false) × AreDistinct ns
