-- Declarations whose cells are numbered in order.
use Rattle.std.specs.Prelude.{◌≡◌, List, map}
use Rattle.m_ast.specs.declared.variable.VariableItem.{VariableItem}
use Rattle.m_symbols.specs.declared.variable.Variable.{Variable}
use Rattle.m_symbols.specs.Declarations.{Declared, placed_from}

-- the declarations of variables
abbrev pub items_of : List Variable → List VariableItem
items_of = map (λ v. v.item)

-- Each variable has the cells after those of the variables before it, as many as its declaration
-- has. `declared_by` gives such a list.
abbrev pub IsPlaced : Declared → Type 0
IsPlaced declared = declared.variables ≡ placed_from 0 (items_of declared.variables)
