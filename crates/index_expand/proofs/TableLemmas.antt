-- The size of a table, by the number of its name.
use Rattle.std.proofs.Common.{◌≡◌, ℕ, ◌<◌, ◌≤◌, ◌+◌, length, arith, List, [], ◌∷◌, Bool, true, false, cond, Option, Some, None, refl, sym, ap, ◌∙◌, add-one}
use Rattle.std.specs.Prelude.{All, slice_get}
use Rattle.std.proofs.lemmas.List.Elements.{All-head, All-tail}
use Rattle.std.specs.Option.{option_map}
use Rattle.std.specs.Str.{bytes_eq}
use Rattle.m_ast.specs.Items.{variable_size}
use Rattle.m_names.specs.Names.{index_of}
use Rattle.m_names.proofs.NameLemmas.{same, cases}
use Rattle.m_symbols.specs.declared.variable.Variable.{Variable}
use Rattle.m_symbols.specs.Declarations.{names_of, name_of}
use Rattle.m_symbols.specs.TableSizes.{size_among}

step_none : (b : Bool) (o : Option ℕ) (here rest : Option ℕ) → cond b (Some 0) (option_map (λ i. i + 1) o) ≡ None → (o ≡ None → rest ≡ None)
    → cond b here rest ≡ None
step_none true o here rest e f = cc
step_none false None here rest e f = f refl
step_none false (Some i) here rest e f = cc

-- a name without a number is not the name of a table
pub size_none : (name : List ℕ) (variables : List Variable) → index_of name (names_of variables) ≡ None → size_among variables name ≡ None
size_none name [] e = refl
size_none name (v ∷ vs) e = step_none (bytes_eq name (name_of v)) (index_of name (names_of vs)) (variable_size v.item) (size_among vs name) e
    (size_none name vs)

-- a name that is longer than all names is not the name of a table
pub size_long : (name : List ℕ) (variables : List Variable) (most : ℕ) → All (λ (v : Variable). length v.item.name ≤ most) variables → most < length name
    → size_among variables name ≡ None
size_long name [] most all l = refl
size_long name (v ∷ vs) most all l =
    cases (bytes_eq name v.item.name)
    (λ t. absurd (omega (arith, ap length (same name v.item.name t), All-head (λ (w : Variable). length w.item.name ≤ most) v vs all, l)))
    (λ f. ap (λ b. cond b (variable_size v.item) (size_among vs name)) f
    ∙ size_long name vs most (All-tail (λ (w : Variable). length w.item.name ≤ most) v vs all) l)

next : (v : Variable) (vs : List Variable) (j : ℕ) → slice_get (v ∷ vs) (j + 1) ≡ slice_get vs j
next v vs j = rw add-one refl

step_some : (b : Bool) (o : Option ℕ) (here rest : Option ℕ) (i : ℕ) (v : Variable) (vs : List Variable) (x : Variable)
    → cond b (Some 0) (option_map (λ j. j + 1) o) ≡ Some i → slice_get (v ∷ vs) i ≡ Some x
    → ((j : ℕ) → o ≡ Some j → slice_get vs j ≡ Some x → rest ≡ variable_size x.item) → here ≡ variable_size v.item → cond b here rest ≡ variable_size x.item
step_some true o here rest i v vs x e at f h =
    let zero-is : 0 ≡ i = cc in
    let same : Some v ≡ Some x = ap (slice_get (v ∷ vs)) zero-is ∙ at in
    let one : v ≡ x = cc in
    h ∙ ap (λ (y : Variable). variable_size y.item) one
step_some false None here rest i v vs x e at f h = cc
step_some false (Some j) here rest i v vs x e at f h =
    let next-is : j + 1 ≡ i = cc in
    f j refl (sym (next v vs j) ∙ ap (slice_get (v ∷ vs)) next-is ∙ at)

-- a name with a number has the size of the variable with the number
pub size_some : (name : List ℕ) (variables : List Variable) (i : ℕ) (x : Variable) → index_of name (names_of variables) ≡ Some i
    → slice_get variables i ≡ Some x → size_among variables name ≡ variable_size x.item
size_some name [] i x e at = cc
size_some name (v ∷ vs) i x e at =
    step_some (bytes_eq name (name_of v)) (index_of name (names_of vs)) (variable_size v.item) (size_among vs name) i v vs x e at (λ j. size_some name vs j x)
    refl
