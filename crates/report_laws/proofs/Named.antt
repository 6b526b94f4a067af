-- The printed name of a cell resolves to it.
use Rattle.std.proofs.Common.{◌≡◌, ℕ, zero, suc, ◌+◌, ◌-◌, ◌==◌, ◌<◌, ◌≤◌, ◌⊎◌, true, false, cond, ◌||◌, nat_lt, nat_le, List, [], ◌∷◌, ◌++◌, length, get_or}
use Rattle.std.proofs.Common.{replicate, decimal, Option, Some, None, slice_get, refl, sym, ap, ◌∙◌, subst, inl, inr, add-one, ne_eqb, eq-eqb, lt-ltb, le-leb}
use Rattle.std.proofs.Common.{length-append, arith}
use Rattle.std.specs.Prelude.{IfSome}
use Rattle.std.specs.List.{AllByRecursion, list_all}
use Rattle.std.specs.Option.{option_map, option_map_or, option_and_then}
use Rattle.std.specs.Str.{bytes_eq}
use Rattle.std.specs.Str.Parse.{AllDigits, digits_value}
use Rattle.std.proofs.lemmas.Bool.{cases_lt, or_left, or_right}
use Rattle.std.proofs.lemmas.Fmt.{decimal_is_IsNumeral, decimal_digit, decimal_nonempty, first_decimal, length-decimal-le}
use Rattle.std.proofs.lemmas.List.{length-replicate}
use Rattle.std.proofs.lemmas.Str.Parse.{digit_from_value}
use Rattle.m_text.specs.Bytes.{is_digit}
use Rattle.m_text.specs.Numbers.{whole_number}
use Rattle.m_names.specs.Names.{AreDistinct, has, index_of}
use Rattle.m_names.proofs.NameLemmas.{itself, or-false, and-both}
use Rattle.m_names.proofs.Distinct.{bytes_eq-flip}
use Rattle.m_places.specs.declared.limits.TheConstants.{TABLE_CELLS}
use Rattle.m_ast.specs.declared.variable.VariableItem.{VariableItem}
use Rattle.m_ast.specs.Items.{cells_in, variable_size, variable_cells}
use Rattle.m_symbols.specs.declared.variable.Variable.{Variable}
use Rattle.m_symbols.specs.Declarations.{Declared, names_of, owners_from, placed_from}
use Rattle.m_text.specs.Parts.{with_first}
use Rattle.m_symbols.specs.Cells.{cell_text, printed_cell, cell_name, variable_named, split_at_bracket, before_closing, may_be_plain, plain_number}
use Rattle.m_symbols.specs.Cells.{parsed_index, cell_within, cell_by, named_cell, request_cell}
use Rattle.m_symbols.specs.Placed.{IsPlaced, items_of}
use Rattle.m_symbols.proofs.Placing.{known_by}
use Rattle.m_compile.proofs.words.Names.{get_more, get_behind}

-- ---- the number of a table's cell

digits_tested : (ds : List ℕ) → AllDigits 10 ds → list_all is_digit ds ≡ true
digits_tested [] h = refl
digits_tested (d ∷ ds) h = let r = digit_from_value d h.0 in and-both (is_digit d) (list_all is_digit ds)
    (and-both (nat_le 48 d) (nat_le d 57) (le-leb 48 d r.0) (le-leb d 57 r.1)) (digits_tested ds h.1)

whole_back : (ds : List ℕ) → AllDigits 10 ds → 0 < length ds → length ds ≤ 9 → whole_number ds ≡ Some (digits_value 10 ds)
unfolding whole_number
whole_back ds h some few = rw (digits_tested ds h, lt-ltb 0 (length ds) some, le-leb (length ds) 9 few) refl

plain_digits : (ds : List ℕ) → 0 < length ds → length ds ≤ 4 → (48 < get_or ds 0 0) ⊎ (length ds ≡ 1) → may_be_plain ds ≡ true
plain_digits [] some few h = absurd (omega (arith, some))
plain_digits (d ∷ ds) some few (inl great) =
    and-both (nat_le (length ds) 3) (nat_lt 48 d || (length ds == 0)) (le-leb (length ds) 3 (omega (arith, few)))
    (or_left (nat_lt 48 d) (length ds == 0) (lt-ltb 48 d great))
plain_digits (d ∷ ds) some few (inr one) =
    and-both (nat_le (length ds) 3) (nat_lt 48 d || (length ds == 0)) (le-leb (length ds) 3 (omega (arith, few)))
    (or_right (nat_lt 48 d) (length ds == 0) (eq-eqb (length ds) 0 (omega (arith, one))))

first_or_only : (k : ℕ) → k < 10000 → (48 < get_or (decimal k) 0 0) ⊎ (length (decimal k) ≡ 1)
first_or_only zero h = inr (ap length (decimal_digit 0 (omega arith)))
first_or_only (suc k) h = inl (first_decimal (suc k) (omega arith) (omega (arith, h)))

plain_back : (k : ℕ) → k < 10000 → plain_number (decimal k) ≡ Some k
plain_back k h =
    let n = decimal_is_IsNumeral k (omega (arith, h)) in
    let some = decimal_nonempty k (omega (arith, h)) in
    let few = length-decimal-le 4 k (omega arith) (omega (arith, h)) (omega (arith, h)) in
    ap (λ b. cond b (whole_number (decimal k)) None) (plain_digits (decimal k) some few (first_or_only k h))
    ∙ whole_back (decimal k) n.0.1 some (omega (arith, few))
    ∙ ap Some n.1

closing_back : (ds : List ℕ) → before_closing (ds ++ 93 ∷ []) ≡ Some ds
closing_back [] = refl
closing_back (d ∷ []) = refl
closing_back (d ∷ e ∷ ds) = ap (option_map (λ front. d ∷ front)) (closing_back (e ∷ ds))

index_back : (k : ℕ) → k < 10000 → parsed_index (decimal k ++ 93 ∷ []) ≡ Some k
index_back k h = ap (option_and_then plain_number) (closing_back (decimal k)) ∙ plain_back k h

-- ---- the name before it

-- a byte that isn't `[`
abbrev pub IsNoBracket : ℕ → Type 0
IsNoBracket b = b ≡ 91 → ⊥

split_whole : (name : List ℕ) → AllByRecursion IsNoBracket name → split_at_bracket name ≡ (name, None)
split_whole [] h = refl
split_whole (b ∷ name) h = ap (λ t. cond t ([], Some name) (with_first b (split_at_bracket name))) (ne_eqb b 91 h.0) ∙ ap (with_first b) (split_whole name h.1)

split_part : (name text : List ℕ) → AllByRecursion IsNoBracket name → split_at_bracket (name ++ 91 ∷ text) ≡ (name, Some text)
split_part [] text h = refl
split_part (b ∷ name) text h =
    ap (λ t. cond t ([], Some (name ++ 91 ∷ text)) (with_first b (split_at_bracket (name ++ 91 ∷ text)))) (ne_eqb b 91 h.0)
    ∙ ap (with_first b) (split_part name text h.1)

-- ---- a variable by its name

other_name : (n : List ℕ) (vs : List Variable) (i : ℕ) (v : Variable) → has n (names_of vs) ≡ false → slice_get vs i ≡ Some v → bytes_eq n v.item.name ≡ false
other_name n [] i v h e = absurd (cc)
other_name n (w ∷ vs) zero v h e = let s : w ≡ v = cc in subst (λ (x : Variable). bytes_eq n x.item.name ≡ false) s
    (or-false (bytes_eq n w.item.name) (has n (names_of vs)) h).0
other_name n (w ∷ vs) (suc i) v h e = other_name n vs i v (or-false (bytes_eq n w.item.name) (has n (names_of vs)) h).1 e

number_named : (vs : List Variable) (i : ℕ) (v : Variable) → AreDistinct (names_of vs) → slice_get vs i ≡ Some v → index_of v.item.name (names_of vs) ≡ Some i
number_named [] i v d e = absurd (cc)
number_named (w ∷ vs) zero v d e =
    let s : w ≡ v = cc in
    subst (λ (x : Variable). index_of x.item.name (names_of (w ∷ vs)) ≡ Some 0) s
    (ap (λ b. cond b (Some 0) (option_map (λ k. k + 1) (index_of w.item.name (names_of vs)))) (itself w.item.name))
number_named (w ∷ vs) (suc i) v d e =
    ap (λ b. cond b (Some 0) (option_map (λ k. k + 1) (index_of v.item.name (names_of vs))))
    (bytes_eq-flip w.item.name v.item.name (other_name w.item.name vs i v d.0 e))
    ∙ ap (option_map (λ k. k + 1)) (number_named vs i v d.1 e)
    ∙ ap Some (add-one i)

variable_back : (declared : Declared) (i : ℕ) (v : Variable) → AreDistinct (names_of declared.variables) → slice_get declared.variables i ≡ Some v
    → variable_named declared v.item.name ≡ Some v
variable_back declared i v d e = ap (option_and_then (slice_get declared.variables)) (number_named declared.variables i v d e) ∙ e

-- ---- the variable of a cell

-- A cell, counted from the first cell of these variables, belongs to the variable with this number, where the first
-- variable has `number`.
record IsOwned (vs : List Variable) (number first cell : ℕ) : Type 0 where
  pub owner : Variable
  pub number_on : number ≤ get_or (owners_from number vs) cell 0
  pub there : slice_get vs (get_or (owners_from number vs) cell 0 - number) ≡ Some owner
  pub begins : owner.first_cell ≤ first + cell
  pub ends : first + cell < owner.first_cell + variable_cells owner.item

abbrev placed : ℕ → VariableItem → Variable
placed first v = record { item = v; first_cell = first; cells = variable_cells v }

owned_first : (first number cell : ℕ) (v : VariableItem) (rest : List Variable) → cell < variable_cells v → IsOwned (placed first v ∷ rest) number first cell
owned_first first number cell v rest h =
    let e = get_more (variable_cells v) number (owners_from (number + 1) rest) cell h in
    let d : 0 ≡ get_or (owners_from number (placed first v ∷ rest)) cell 0 - number = omega (arith, e) in
    record {
      owner = placed first v;
      number_on = omega (arith, e);
      there = subst (λ k. slice_get (placed first v ∷ rest) k ≡ Some (placed first v)) d refl;
      begins = omega arith;
      ends = omega (arith, h);
    }

owned_later : (first number cell : ℕ) (v : VariableItem) (rest : List Variable) → variable_cells v ≤ cell
    → IsOwned rest (number + 1) (first + variable_cells v) (cell - variable_cells v) → IsOwned (placed first v ∷ rest) number first cell
owned_later first number cell v rest h o =
    let n = variable_cells v in
    let e = get_behind n number (owners_from (number + 1) rest) cell h in
    let on = o.number_on in
    let d : suc (get_or (owners_from (number + 1) rest) (cell - n) 0 - (number + 1)) ≡ get_or (owners_from number (placed first v ∷ rest)) cell 0 -
    number = omega (arith, e, on) in
    let b = o.begins in
    let f = o.ends in
    record {
      owner = o.owner;
      number_on = omega (arith, e, on);
      there = subst (λ k. slice_get (placed first v ∷ rest) k ≡ Some o.owner) d o.there;
      begins = omega (arith, h, b);
      ends = omega (arith, h, f);
    }

owned : (items : List VariableItem) (first number cell : ℕ) → cell < length (owners_from number (placed_from first items))
    → IsOwned (placed_from first items) number first cell
owned [] first number cell h = absurd (omega (arith, h))
owned (v ∷ items) first number cell h =
    let n = variable_cells v in
    let rest = placed_from (first + n) items in
    let a = length-append (replicate n number) (owners_from (number + 1) rest) in
    let r = length-replicate n number in
    elim (cases_lt cell n) [
      | inl low ↦ owned_first first number cell v rest low
      | inr high ↦ owned_later first number cell v rest high (owned items (first + n) (number + 1) (cell - n) (omega (arith, h, a, r, high)))
    ]

-- ---- the name of a cell of a variable

-- the conditions on a variable: its name has no bracket, and a table has few cells
abbrev pub IsNameable : VariableItem → Type 0
IsNameable v = AllByRecursion IsNoBracket v.name × IfSome (variable_size v) (λ size. size ≤ TABLE_CELLS)

cell_of_text : (declared : Declared) (v : Variable) (size : Option ℕ) (c : ℕ) → variable_named declared v.item.name ≡ Some v → variable_size v.item ≡ size
    → AllByRecursion IsNoBracket v.item.name
    → IfSome size (λ s. s ≤ TABLE_CELLS) → v.first_cell ≤ c → c < v.first_cell + cells_in size
    → request_cell declared (cell_text size v.item.name (c - v.first_cell)) ≡ Some c
cell_of_text declared v None c named is without small low high =
    let same : v.first_cell ≡ c = omega (arith, low, high) in
    ap (named_cell declared) (split_whole v.item.name without)
    ∙ ap (option_and_then (λ w. cell_by None (variable_size w.item) w.first_cell)) named
    ∙ ap (λ s. cell_by None s v.first_cell) is
    ∙ ap Some same
cell_of_text declared v (Some size) c named is without small low high =
    let k : ℕ = c - v.first_cell in
    let inside : k < size = omega (arith, low, high) in
    let same : v.first_cell + k ≡ c = omega (arith, low) in
    let index : List ℕ = decimal k ++ 93 ∷ [] in
    ap (named_cell declared) (split_part v.item.name index without)
    ∙ ap (option_and_then (λ w. cell_by (Some index) (variable_size w.item) w.first_cell)) named
    ∙ ap (λ s. cell_by (Some index) s v.first_cell) is
    ∙ ap (option_and_then (cell_within v.first_cell size)) (index_back k (omega (arith, inside, small)))
    ∙ ap (λ b. cond b (Some (v.first_cell + k)) None) (lt-ltb k size inside)
    ∙ ap Some same

at_number : (P : Variable → Type 0) (vs : List Variable) (i : ℕ) (v : Variable) → AllByRecursion P vs → slice_get vs i ≡ Some v → P v
at_number P [] i v a e = absurd (cc)
at_number P (w ∷ vs) zero v a e = let s : w ≡ v = cc in subst P s a.0
at_number P (w ∷ vs) (suc i) v a e = at_number P vs i v a.1 e

-- The printed name of each cell resolves to it, if the names of variables are distinct.
pub cell_back : (declared : Declared) (c : ℕ) → IsPlaced declared → AreDistinct (names_of declared.variables)
    → AllByRecursion (λ (v : Variable). IsNameable v.item) declared.variables
    → c < length (owners_from 0 declared.variables) → request_cell declared (cell_name declared c) ≡ Some c
cell_back declared c placed distinct good low =
    let vs = declared.variables in
    let o = subst (λ (l : List Variable). IsOwned l 0 0 c) (sym placed)
    (owned (items_of vs) 0 0 c (subst (λ (l : List Variable). c < length (owners_from 0 l)) placed low)) in
    let v = o.owner in
    let number : ℕ = get_or (owners_from 0 vs) c 0 in
    let same : number - 0 ≡ number = omega arith in
    let at : slice_get vs number ≡ Some v = subst (λ k. slice_get vs k ≡ Some v) same o.there in
    let is = at_number (λ (w : Variable). IsNameable w.item) vs number v good at in
    let b = o.begins in
    let e = o.ends in
    ap (λ w. request_cell declared (option_map_or (printed_cell c) w [])) at
    ∙ cell_of_text declared v (variable_size v.item) c (variable_back declared number v distinct at) refl is.0 is.1 (omega (arith, b)) (omega (arith, e))

-- ---- the cell of a name

at_variable : (declared : Declared) (i : ℕ) (index : Option (List ℕ)) (o : Option Variable) → IsPlaced declared → slice_get declared.variables i ≡ o
    → IfSome (option_and_then (λ (v : Variable). cell_by index (variable_size v.item) v.first_cell) o) (λ c. c < length (owners_from 0 declared.variables))
at_variable declared i index None p e = tt
at_variable declared i index (Some v) p e = known_by declared i v index _ p e refl

at_index : (declared : Declared) (index : Option (List ℕ)) (n : Option ℕ) → IsPlaced declared
    → IfSome (option_and_then (λ (v : Variable). cell_by index (variable_size v.item) v.first_cell) (option_and_then (slice_get declared.variables) n))
    (λ c. c < length (owners_from 0 declared.variables))
at_index declared index None p = tt
at_index declared index (Some i) p = at_variable declared i index (slice_get declared.variables i) p refl

-- a name resolves to a cell
pub requested_below : (declared : Declared) (name : List ℕ) (c : ℕ) → IsPlaced declared → request_cell declared name ≡ Some c
    → c < length (owners_from 0 declared.variables)
requested_below declared name c p e =
    subst (λ o. IfSome o (λ d. d < length (owners_from 0 declared.variables))) e
    (at_index declared (split_at_bracket name).1 (index_of (split_at_bracket name).0 (names_of declared.variables)) p)
