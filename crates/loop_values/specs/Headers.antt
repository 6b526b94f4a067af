-- Loop headers: their instances, the number of these, and their faulty indexes.
use Rattle.std.specs.Prelude.{◌≡◌, ℕ, ◌*◌, Bool, ◌||◌, ◌==◌, List, [], ◌∷◌, length, nat_lt, count_by}
use Rattle.std.specs.List.{flat_map, list_any}
use Rattle.m_ast.specs.declared.header.Header.{Header}
use Rattle.m_ast.specs.declared.header.Index.{Index}
use Rattle.loop_values.specs.Letters.{Letters, bind}
use Rattle.loop_values.specs.Values.{index_values, is_bad_span}

-- The bindings in each instance of indexes, in order: the first index varies slowest.
-- `i = A,B ; j = 1,2` has the instances A1, A2, B1, B2.
abbrev pub instances : List Index → Letters → List Letters
instances [] letters = letters ∷ []
instances (index ∷ rest) letters = flat_map (λ value. instances rest (bind letters index.letter value)) (index_values index)

-- the number of instances of indexes: the product of the numbers of their values
abbrev pub instance_count : List Index → ℕ
instance_count [] = 1
instance_count (index ∷ rest) = length (index_values index) * instance_count rest

-- an index has one value
abbrev pub IsSingle : Index → Type 0
IsSingle index = length (index_values index) ≡ 1

-- the indexes of all headers, from the outermost to the innermost
abbrev pub all_indexes : List Header → List Index
all_indexes headers = flat_map (λ header. header.indexes) headers

-- whether a letter is bound twice in a header
abbrev pub is_twice : ℕ → List Index → Bool
is_twice letter indexes = nat_lt 1 (count_by (λ index. index.letter == letter) indexes)

-- whether an index of a header is faulty: it has a range without values, or its letter is bound
-- twice
abbrev pub is_bad_index : List Index → Index → Bool
is_bad_index indexes index = list_any is_bad_span index.values || is_twice index.letter indexes
