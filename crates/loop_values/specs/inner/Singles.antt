-- The bindings of letters after the loops of indexes.
use Rattle.std.specs.Prelude.{ℕ, List, [], ◌∷◌, Option, slice_set}
use Rattle.m_ast.specs.declared.header.Index.{Index}
use Rattle.loop_values.specs.Letters.{Letters}

-- The letters, with the previous binding of each index restored. `outer` holds these in the order
-- of the indexes; if a letter is bound twice, the one of its first index decides.
abbrev pub unbound : List Index → List (Option (List ℕ)) → Letters → Letters
unbound [] outer letters = letters
unbound (index ∷ rest) [] letters = letters
unbound (index ∷ rest) (value ∷ values) letters = slice_set (unbound rest values letters) index.letter value
