-- Kinds of inputs, as drivers name them: those whose attribute has one of a list of values.
use Rattle.std.specs.Prelude.{ℤ, ℕ, Bool, false, ◌&&◌, List, [], ◌∷◌, Option, Some, None, if◌then◌else◌}
use Rattle.std.specs.List.{list_any}
use Rattle.std.specs.Option.{option_map_or, option_or}
use Rattle.std.specs.Ordering.{int_eq}
use Rattle.std.specs.Str.{bytes_eq}
use Rattle.m_ast.specs.Items.{is_input}
use Rattle.m_symbols.specs.declared.variable.Variable.{Variable}

-- the value of the last pair with this attribute: in `avfisc = 1 classe = 0 avfisc = 2` it is 2 for
-- `avfisc`
abbrev pub last_value : List ℕ → List (List ℕ × ℤ) → Option ℤ
last_value attribute [] = None
last_value attribute (pair ∷ pairs) = option_or (last_value attribute pairs) (if bytes_eq attribute pair.0 then Some pair.1 else None)

-- whether there is a value, and it is in a list
abbrev pub is_one_of : Option ℤ → List ℤ → Bool
is_one_of found values = option_map_or (λ value. list_any (int_eq value) values) found false

-- whether a variable is an input whose last pair with this attribute has one of these values
abbrev pub is_of_kind : Variable → List ℕ → List ℤ → Bool
is_of_kind v attribute values = is_input v.item.role && is_one_of (last_value attribute v.item.pairs) values

-- the same, and false if there is no variable
abbrev pub is_in_kind : Option Variable → List ℕ → List ℤ → Bool
is_in_kind found attribute values = option_map_or (λ v. is_of_kind v attribute values) found false
