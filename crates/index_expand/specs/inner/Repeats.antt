-- The letters that are bound twice in a header.
use Rattle.std.specs.Prelude.{◌≡◌, ℕ, ◌<◌, Bool, false, List, slice_index_or}
use Rattle.m_ast.specs.declared.header.Index.{Index}
use Rattle.loop_values.specs.Headers.{is_twice}

-- for each byte whether two or more of the indexes have it as their letter
pub record Repeats (repeated : List Bool) (header : List Index) : Type 0 where
  pub letters : (letter : ℕ) → letter < 256 → slice_index_or repeated letter false ≡ is_twice letter header
