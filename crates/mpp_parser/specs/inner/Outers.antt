-- The indentations of a line and of its outer lines, updated from line to line.
use Rattle.std.specs.Prelude.{ℕ, nat_lt, if◌then◌else◌, List, [], ◌∷◌}

-- these indentations, innermost first, without the leading ones that aren't less than i
abbrev pub left_outers : ℕ → List ℕ → List ℕ
left_outers i [] = []
left_outers i (x ∷ xs) = if nat_lt x i then x ∷ xs else left_outers i xs
