-- Reads and writes of several cells of a list. A cell past the end of the list is skipped.
use Rattle.std.specs.Prelude.{ℕ, List, [], ◌∷◌, slice_set, slice_index_or}

-- these cells with their entries
abbrev pub picked : {A : Type 0} → A → List ℕ → List A → List (ℕ × A)
picked d [] from = []
picked d (x ∷ xs) from = (x, slice_index_or from x d) ∷ picked d xs from

-- the list after these entries are written to their cells in turn
abbrev pub written : {A : Type 0} → List (ℕ × A) → List A → List A
written [] into = into
written (p ∷ ps) into = written ps (slice_set into p.0 p.1)

-- one list, with the entries of these cells copied from another
abbrev pub received : {A : Type 0} → A → List ℕ → List A → List A → List A
received d xs from into = written (picked d xs from) into

-- the list with this entry at all these cells
abbrev pub blanked : {A : Type 0} → A → List ℕ → List A → List A
blanked d [] into = into
blanked d (x ∷ xs) into = blanked d xs (slice_set into x d)
