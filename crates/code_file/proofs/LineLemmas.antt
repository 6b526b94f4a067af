-- Lines of a list, from a position on.
use Rattle.std.specs.Prelude.{◌/◌, ◌%◌}
use Rattle.std.proofs.Common.{◌≡◌, ℕ, ◌+◌, ◌<◌, ◌≤◌, length, get_or, drop, List, [], ◌∷◌, ◌++◌, ap, sym, ◌∙◌}
use Rattle.std.specs.List.{flat_map}
use Rattle.std.proofs.lemmas.List.{drop_more, drop_all}
use Rattle.code_file.specs.Text.{hex_of, hex_digit}

-- they begin with the line of the element at that position
pub lines-at : {X : Type 0} (line : X → List ℕ) (xs : List X) (k : ℕ) (x d : X) → k < length xs → x ≡ get_or xs k d
    → flat_map line (drop k xs) ≡ line x ++ flat_map line (drop (k + 1) xs)
lines-at line xs k x d lt is = ap (flat_map line) (drop_more xs k d lt) ∙ ap (λ y. line y ++ flat_map line (drop (k + 1) xs)) (sym is)

-- past the end there is none
pub lines-end : {X : Type 0} (line : X → List ℕ) (xs : List X) (k : ℕ) → length xs ≤ k → flat_map line (drop k xs) ≡ []
lines-end line xs k le = ap (flat_map line) (drop_all k xs le)

-- the digits of bytes from a position on begin with those of the byte there
pub hex-at : (bytes : List ℕ) (k : ℕ) → k < length bytes → hex_of (drop k bytes) ≡ (hex_digit (get_or bytes k 0 / 16) ∷ hex_digit (get_or bytes k 0 % 16) ∷ [])
    ++ hex_of (drop (k + 1) bytes)
hex-at bytes k lt = ap hex_of (drop_more bytes k 0 lt)

pub hex-end : (bytes : List ℕ) (k : ℕ) → length bytes ≤ k → hex_of (drop k bytes) ≡ []
hex-end bytes k le = ap hex_of (drop_all k bytes le)
