-- The cells of the inputs of a kind, and an index of all declared inputs.
use Rattle.std.specs.Prelude.{◌≡◌, ℕ, ℤ, List, [], ◌∷◌, ◌++◌, if◌then◌else◌}
use Rattle.m_symbols.specs.declared.variable.Variable.{Variable}
use Rattle.m_symbols.specs.Kinds.{is_of_kind}
use Rattle.driver_core.specs.declared.kind_index.KindIndex.{KindIndex}
use Rattle.driver_core.specs.Groups.{group_in}

-- the cell of a variable that is an input whose attribute has one of these values
abbrev pub of_kind : List ℕ → List ℤ → Variable → List ℕ
of_kind attribute values v = if is_of_kind v attribute values then v.first_cell ∷ [] else []

-- the cells of such inputs among these variables, in order of declaration
abbrev pub cells_with : List ℕ → List ℤ → List Variable → List ℕ
cells_with attribute values [] = []
cells_with attribute values (v ∷ vs) = of_kind attribute values v ++ cells_with attribute values vs

-- for each value of each attribute the index has the cells of the inputs that have it
abbrev pub IsIndexOf : List Variable → KindIndex → Type 0
IsIndexOf variables index = (attribute : List ℕ) (value : ℤ) → group_in index attribute value ≡ cells_with attribute (value ∷ []) variables
