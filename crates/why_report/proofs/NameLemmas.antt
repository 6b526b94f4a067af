-- The names and the cells of variables, as lists.
use Rattle.std.proofs.Common.{◌≡◌, ℕ, ◌+◌, ◌<◌, ◌≤◌, ◌-◌, zero, suc, List, [], ◌∷◌, ◌++◌, map, take, length, get_or, slice_get, Option, None, Some}
use Rattle.std.proofs.Common.{refl, sym, ap, ◌∙◌, subst, arith}
use Rattle.std.specs.Prelude.{IfSome}
use Rattle.std.specs.Option.{option_map, option_map_or, option_and_then}
use Rattle.std.proofs.lemmas.List.{get_or_default, take_more}
use Rattle.std.proofs.lemmas.Option.{get_or_from_slice_get}
use Rattle.m_names.specs.Faults.{Repeats}
use Rattle.m_names.specs.Names.{AreDistinct}
use Rattle.m_names.specs.declared.fault.NamesFault.{NamesFault}
use Rattle.m_names.specs.declared.fault.NamesFault.TheVariants.{Memory, Repeated}
use Rattle.m_names.proofs.Distinct.{repeat_twice}
use Rattle.m_symbols.specs.declared.variable.Variable.{Variable}
use Rattle.m_symbols.specs.Declarations.{Declared, name_of, owners_from}
use Rattle.m_symbols.specs.Placed.{IsPlaced}
use Rattle.m_symbols.specs.Cells.{cell_by, cell_name, cell_text, printed_cell}
use Rattle.m_symbols.proofs.Added.{map-push}
use Rattle.m_symbols.proofs.Numbered.{owner-below}
use Rattle.m_symbols.proofs.Placing.{span_fits, span_known}
use Rattle.m_ast.specs.Items.{variable_size}
use Rattle.m_symbols.specs.declared.spans.Span.{Span}
use Rattle.m_symbols.specs.Spans.{span_of}

-- one more variable of a list
pub mapped-more : {X : Type 0} (f : Variable → X) (vs : List Variable) (n : ℕ) (v : Variable) (before after : List X) → n < length vs → slice_get vs n ≡ Some v
    → before ≡ map f (take n vs) → after ≡ before ++ f v ∷ [] → after ≡ map f (take (n + 1) vs)
mapped-more f vs n v before after low at so_far is =
    is ∙ ap (λ l. l ++ f v ∷ []) so_far ∙ sym (map-push f (take n vs) v)
    ∙ ap (map f) (sym (take_more vs n v low ∙ ap (λ w. take n vs ++ w ∷ []) (get_or_from_slice_get vs n v v at)))

-- the element of a list, by a list of what it maps to
pub mapped-at : {X : Type 0} (f : Variable → X) (vs : List Variable) (n : ℕ) (x : X) → n < length vs → x ≡ get_or (map f vs) n x
    → option_map f (slice_get vs n) ≡ Some x
mapped-at f [] n x low is = absurd (omega arith)
mapped-at f (v ∷ vs) zero x low is = ap Some (sym is)
mapped-at f (v ∷ vs) (suc n) x low is = mapped-at f vs n x (omega arith) is

-- the variable with this span
pub record HasSpan (declared : Declared) (n : ℕ) (s : Span) : Type 0 where
  pub variable : Variable
  pub there : slice_get declared.variables n ≡ Some variable
  pub span : span_of variable ≡ s

spanned : (o : Option Variable) (s : Span) → option_map span_of o ≡ Some s → (v : Variable) × (o ≡ Some v) × (span_of v ≡ s)
spanned None s e = absurd (cc)
spanned (Some v) s e = (v, refl, cc)

pub has-span : (declared : Declared) (n : ℕ) (s : Span) → option_map span_of (slice_get declared.variables n) ≡ Some s → HasSpan declared n s
has-span declared n s e = let k = spanned (slice_get declared.variables n) s e in record { variable = k.0; there = k.1; span = k.2 }

-- a table's cells are among all cells
pub span-fits : (declared : Declared) (n : ℕ) (s : Span) → IsPlaced declared → option_map span_of (slice_get declared.variables n) ≡ Some s
    → IfSome s.size (λ size. s.first_cell + size ≤ length (owners_from 0 declared.variables))
span-fits declared n s placed e =
    let k = has-span declared n s e in
    span_fits declared n (length (owners_from 0 declared.variables)) k.variable s placed k.there (sym k.span) refl

-- the cell that a request finds is one of all
pub span-known : (declared : Declared) (n : ℕ) (s : Span) (index : Option (List ℕ)) (cell : Option ℕ) → IsPlaced declared
    → option_map span_of (slice_get declared.variables n) ≡ Some s → cell ≡ cell_by index s.size s.first_cell
    → IfSome cell (λ c. c < length (owners_from 0 declared.variables))
span-known declared n s index cell placed e is =
    let k = has-span declared n s e in
    span_known declared n k.variable s index cell placed k.there (sym k.span) is

-- the cell of the variable with this span
pub span-cell : (declared : Declared) (n : ℕ) (s : Span) (index : Option (List ℕ)) → option_map span_of (slice_get declared.variables n) ≡ Some s
    → option_and_then (λ (v : Variable). cell_by index (variable_size v.item) v.first_cell) (slice_get declared.variables n) ≡ cell_by index s.size s.first_cell
span-cell declared n s index e =
    let k = has-span declared n s e in
    ap (option_and_then (λ (v : Variable). cell_by index (variable_size v.item) v.first_cell)) k.there
    ∙ ap (λ (t : Span). cell_by index t.size t.first_cell) k.span

-- the printed name of a cell, by the name and the span of its variable
named : (cell : ℕ) (o : Option Variable) (name : List ℕ) (s : Span) → option_map name_of o ≡ Some name → option_map span_of o ≡ Some s
    → option_map_or (printed_cell cell) o [] ≡ cell_text s.size name (cell - s.first_cell)
named cell None name s n e = absurd (cc)
named cell (Some v) name s n e =
    let called : name_of v ≡ name = cc in
    let placed : span_of v ≡ s = cc in
    λ i. cell_text (placed i).size (called i) (cell - (placed i).first_cell)

pub span-name : (declared : Declared) (cell owner : ℕ) (name : List ℕ) (s : Span) → owner ≡ get_or (owners_from 0 declared.variables) cell 0
    → option_map name_of (slice_get declared.variables owner) ≡ Some name → option_map span_of (slice_get declared.variables owner) ≡ Some s
    → cell_name declared cell ≡ cell_text s.size name (cell - s.first_cell)
span-name declared cell owner name s is n e =
    ap (λ k. option_map_or (printed_cell cell) (slice_get declared.variables k) []) (sym is)
    ∙ named cell (slice_get declared.variables owner) name s n e

-- the variable of a cell is one of the variables
pub owner-within : (declared : Declared) (owners : List ℕ) (cell r : ℕ) → owners ≡ owners_from 0 declared.variables
    → cell < length (owners_from 0 declared.variables) → r ≡ get_or owners cell r → r < length declared.variables
owner-within declared owners cell r o some e =
    let within : cell < length owners = omega (arith, some, ap length o) in
    let at : r ≡ get_or (owners_from 0 declared.variables) cell 0 = e ∙ get_or_default owners cell r 0 within ∙ ap (λ ns. get_or ns cell 0) o in
    omega (arith, at, owner-below 0 declared.variables cell some)

-- distinct names have no repeat
pub not-repeated : (names : List (List ℕ)) (fault : NamesFault) (earlier later : ℕ) → fault ≡ Repeated earlier later
    → ((fault ≡ Memory → ⊥) → Repeats names fault) → AreDistinct names → ⊥
not-repeated names fault earlier later is says distinct =
    let other : fault ≡ Memory → ⊥ = λ memory. let k : Repeated earlier later ≡ Memory = sym is ∙ memory in absurd (cc k) in
    repeat_twice names earlier later (subst (Repeats names) is (says other)) distinct
