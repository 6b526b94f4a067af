-- Indexes with the same instances as all indexes of headers.
use Rattle.std.specs.Prelude.{◌≡◌, ℕ, ◌<◌, Bool, true, false, ◌==◌, List, slice_index_or}
use Rattle.std.specs.List.{list_any}
use Rattle.m_ast.specs.declared.header.Index.{Index}
use Rattle.loop_values.specs.Letters.{Letters}
use Rattle.loop_values.specs.Headers.{instances}

-- whether an index among these binds a letter
abbrev pub binds : ℕ → List Index → Bool
binds letter indexes = list_any (λ index. index.letter == letter) indexes

-- the kept indexes have the instances of all, and bind each letter that is marked as bound
pub record AreKept (kept : List Index) (bound : List Bool) (all : List Index) : Type 0 where
  pub same : (letters : Letters) → instances kept letters ≡ instances all letters
  pub marked : (letter : ℕ) → letter < 256 → slice_index_or bound letter false ≡ true → binds letter kept ≡ true
