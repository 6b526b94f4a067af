-- The tables: look-ups, and one more variable.
use Rattle.std.proofs.Common.{◌≡◌, ℕ, ◌+◌, ◌-◌, ◌<◌, ◌≤◌, Bool, true, false, not, cond, List, [], ◌∷◌, ◌++◌, map, take, length, get_or, replicate, refl, sym}
use Rattle.std.proofs.Common.{ap, ◌∙◌, length-append, arith}
use Rattle.std.proofs.lemmas.List.{get_or_default, take_all, length-replicate}
use Rattle.std.proofs.lemmas.List.Elements.{All-push, All-weaker}
use Rattle.std.specs.Prelude.{All}
use Rattle.m_names.specs.Names.{has}
use Rattle.m_symbols.specs.declared.symbols.Tables.{Tables}
use Rattle.m_symbols.specs.declared.variable.Variable.{Variable}
use Rattle.m_symbols.specs.Declarations.{names_of, name_of, codes_of, inputs_from, owners_from}
use Rattle.m_symbols.specs.inner.Tables.{AreIndexed}
use Rattle.m_symbols.proofs.Numbered.{as_many_codes, input-below, owner-below}
use Rattle.m_symbols.proofs.Added.{map-push, owners-push}

pub as_many : (t : Tables) → AreIndexed t → length t.codes ≡ length (inputs_from 0 t.variables.items)
as_many t x = ap length x.codes ∙ as_many_codes 0 t.variables.items

-- the number of the variable that is an input
pub input_at : (t : Tables) → AreIndexed t → (i r : ℕ) → i < length t.codes → r ≡ get_or t.inputs.items i r → (r ≡ get_or (inputs_from 0 t.variables.items) i 0)
    × (r < length t.variables.items)
input_at t x i r l e =
    let some : i < length (inputs_from 0 t.variables.items) = omega (arith, l, as_many t x) in
    let within : i < length t.inputs.items = omega (arith, some, ap length x.inputs) in
    let at : r ≡ get_or (inputs_from 0 t.variables.items) i 0 = e ∙ get_or_default t.inputs.items i r 0 within ∙ ap (λ ns. get_or ns i 0) x.inputs in
    (at, omega (arith, at, input-below 0 t.variables.items i some))

-- the number of the variable of a cell
pub owner_at : (t : Tables) → AreIndexed t → (i r : ℕ) → i < length (owners_from 0 t.variables.items) → r ≡ get_or t.owners.items i r
    → r < length t.variables.items
owner_at t x i r some e =
    let within : i < length t.owners.items = omega (arith, some, ap length x.owners) in
    let at : r ≡ get_or (owners_from 0 t.variables.items) i 0 = e ∙ get_or_default t.owners.items i r 0 within ∙ ap (λ ns. get_or ns i 0) x.owners in
    omega (arith, at, owner-below 0 t.variables.items i some)

-- one more name
pub name_added : {X : Type 0} (name : X → List ℕ) (known new : List (List ℕ)) (fresh : Bool) (xs : List X) (x : X) → known ≡ map name xs
    → has (name x) (map name xs) ≡ false → fresh ≡ not (has (name x) known)
    → new ≡ cond fresh (known ++ name x ∷ []) known → new ≡ map name (xs ++ x ∷ [])
name_added name known new fresh xs x k h f e =
    let is_fresh : fresh ≡ true = f ∙ ap (λ l. not (has (name x) l)) k ∙ ap not h in
    e ∙ ap (λ b. cond b (known ++ name x ∷ []) known) is_fresh ∙ ap (λ l. l ++ name x ∷ []) k ∙ sym (map-push name xs x)

-- the length of the longest name, with one more variable
pub longest_added : (vs : List Variable) (v : Variable) (before after : ℕ) → All (λ (w : Variable). length w.item.name ≤ before) vs → before ≤ after
    → length v.item.name ≤ after
    → All (λ (w : Variable). length w.item.name ≤ after) (vs ++ v ∷ [])
longest_added vs v before after all more fits =
    All-push (λ (w : Variable). length w.item.name ≤ after) vs v
    (All-weaker (λ (w : Variable). length w.item.name ≤ before) (λ (w : Variable). length w.item.name ≤ after) (λ w l. omega (arith, l, more)) vs all)
    fits

-- the cells of one more variable
pub cells_added : (owners new : List ℕ) (vs : List Variable) (v : Variable) (number all : ℕ) → owners ≡ owners_from 0 vs → number ≡ length vs
    → all ≡ length owners + v.cells → new ≡ take all owners ++ replicate (all - length owners) number
    → (new ≡ owners_from 0 (vs ++ v ∷ [])) × (length new ≡ length owners + v.cells)
cells_added owners new vs v number all o n a e =
    let whole : take all owners ≡ owners = take_all all owners (omega arith) in
    let many : all - length owners ≡ v.cells = omega arith in
    let made : new ≡ owners ++ replicate v.cells number = e ∙ (λ i. whole i ++ replicate (many i) number) in (
      made ∙ ap (λ l. l ++ replicate v.cells number) o ∙ sym (owners-push 0 vs v number (omega arith)),
      ap length made ∙ length-append owners (replicate v.cells number) ∙ ap (λ m. length owners + m) (length-replicate v.cells number),
    )
