-- The concatenation of a text for each element of a list, from some element on.
use Rattle.std.proofs.Common.{◌≡◌, ℕ, ◌+◌, ◌<◌, ◌≤◌, length, get_or, drop, List, [], ◌++◌, sym, ◌∙◌, ap}
use Rattle.std.proofs.lemmas.List.{drop_more, drop_all}
use Rattle.std.specs.List.{flat_map}

-- it begins with the text of that element
pub each_at : {X : Type 0} (text : X → List ℕ) (xs : List X) (i : ℕ) (x d : X) → i < length xs → x ≡ get_or xs i d
    → flat_map text (drop i xs) ≡ text x ++ flat_map text (drop (i + 1) xs)
each_at text xs i x d inside is = ap (flat_map text) (drop_more xs i d inside) ∙ ap (λ y. text y ++ flat_map text (drop (i + 1) xs)) (sym is)

-- after the last element it is empty
pub each_end : {X : Type 0} (text : X → List ℕ) (xs : List X) (i : ℕ) → length xs ≤ i → flat_map text (drop i xs) ≡ []
each_end text xs i h = ap (flat_map text) (drop_all i xs h)
