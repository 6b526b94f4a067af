-- The names and the cells of variables, without their declarations.
use Rattle.std.specs.Prelude.{◌≡◌, ℕ, ◌<◌, ◌^◌, List, length, map}
use Rattle.m_symbols.specs.Declarations.{Declared, names_of, owners_from}
use Rattle.m_symbols.specs.Placed.{IsPlaced}
use Rattle.m_symbols.specs.Spans.{span_of}
use Rattle.m_symbols.specs.declared.spans.Span.{Span}

-- Each list has for each declared variable, or each cell, what its name states, and counts fit their types.
pub record AreNamed (declared : Declared) (known names : List (List ℕ)) (spans : List Span) (owners : List ℕ) : Type 0 where
  pub placed : IsPlaced declared
  pub index : known ≡ names_of declared.variables
  pub named : names ≡ names_of declared.variables
  pub spanned : spans ≡ map span_of declared.variables
  pub owned : owners ≡ owners_from 0 declared.variables
  pub few : length declared.variables < 2 ^ 32
  pub few_cells : length owners < 2 ^ 32
