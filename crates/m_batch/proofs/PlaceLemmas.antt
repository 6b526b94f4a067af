-- Places of inputs, row by row, and the lists of values filled by them.
use Rattle.std.proofs.Common.{◌≡◌, ◌≢◌, ℕ, ℤ, zero, suc, ◌+◌, ◌-◌, ◌<◌, ◌≤◌, eqb, List, [], ◌∷◌, ◌++◌, length, get_or, set, map, take, drop, replicate, refl}
use Rattle.std.proofs.Common.{sym, ap, subst, ◌∙◌, ⊎_elim, zero-add, arith, Vec}
use Rattle.std.specs.declared.alloc.Global.{Global}
use Rattle.std.specs.List.{AllByRecursion, range_with_len}
use Rattle.std.proofs.lemmas.Bool.{eq-eqb, ne_eqb, cases_eq, cond-true, cond-false}
use Rattle.std.proofs.lemmas.List.{same_lists, map-set, take-map, get_or-take, take_more, drop_more, length-map, get_or-map, get_or-set_same, get_or-set_other}
use Rattle.std.proofs.lemmas.List.FromFn.{length-range_with_len, get_or-range_with_len}
use Rattle.m_fixed.specs.declared.amount.Value.{Value}
use Rattle.m_fixed.specs.declared.amount.Value.TheVariants.{Undef, Num}
use Rattle.flat_code.specs.Runs.{value_at as at}
use Rattle.household.specs.declared.table.Row.{Row}
use Rattle.household.specs.Household.{inputs_of, value_at, values_of}
use Rattle.household.proofs.ValueLemmas.{length-values_of, input_in_range}
use Rattle.m_batch.specs.inner.Rows.{row_at, row_inputs}
use Rattle.m_batch.specs.Batch.{HasInputsBelow}
use Rattle.m_batch.specs.declared.places.Places.{Places}
use Rattle.m_batch.specs.inner.Places.{place_of, IsPlacing, HasPlaces, RowHasPlaces, KeepPlaces, ArePlaced, IsFilled}

-- ---- places, in order

-- the input of a pair is below the count
pub pair_below : (n : ℕ) (pairs given : List (ℕ × ℤ)) (k : ℕ) (pair : ℕ × ℤ) → AllByRecursion (λ input. input < n) (inputs_of pairs) → given ≡ pairs
    → k < length given
    → pair ≡ get_or given k pair → pair.0 < n
pair_below n pairs given k pair known is lt at =
    let known' : AllByRecursion (λ input. input < n) (inputs_of given) = subst (λ (ps : List (ℕ × ℤ)). AllByRecursion (λ input. input < n) (inputs_of ps))
    (sym is) known in
    subst (λ (p : ℕ × ℤ). p.0 < n) (sym at) (input_in_range n given k pair known' lt)

pub keep_trans : (a b c : Places) → KeepPlaces a b → KeepPlaces b c → KeepPlaces a c
keep_trans a b c one two = record { many = two.many ∙ one.many; places = λ n h. two.places n (one.places n h) }

-- pairs keep their places
keep_placed : (old new : Places) (pairs : List (ℕ × ℤ)) → KeepPlaces old new → HasPlaces old pairs → HasPlaces new pairs
keep_placed old new [] keep has = tt
keep_placed old new (pair ∷ pairs) keep has = ((omega (arith, has.0.0, keep.many), keep.places pair.0 has.0.1), keep_placed old new pairs keep has.1)

placed_push : (places : Places) (pairs : List (ℕ × ℤ)) (pair : ℕ × ℤ) → HasPlaces places pairs → pair.0 < length places.of.items → 0 < place_of places pair.0
    → HasPlaces places (pairs ++ pair ∷ [])
placed_push places [] pair has below some = ((below, some), tt)
placed_push places (p ∷ pairs) pair has below some = (has.0, placed_push places pairs pair has.1 below some)

-- one more pair
pub placed_next : (old new : Places) (pairs given : List (ℕ × ℤ)) (k : ℕ) (pair : ℕ × ℤ) → HasPlaces old (take k pairs) → KeepPlaces old new → given ≡ pairs
    → k < length given
    → pair ≡ get_or given k pair → pair.0 < length old.of.items → 0 < place_of new pair.0 → HasPlaces new (take (k + 1) pairs)
placed_next old new pairs given k pair has keep is lt at below some =
    let here : pair ≡ get_or pairs k pair = at ∙ ap (λ (ps : List (ℕ × ℤ)). get_or ps k pair) is in
    let within : k < length pairs = subst (λ (ps : List (ℕ × ℤ)). k < length ps) is lt in
    subst (HasPlaces new) (ap (λ (p : ℕ × ℤ). take k pairs ++ p ∷ []) here ∙ sym (take_more pairs k pair within))
    (placed_push new (take k pairs) pair (keep_placed old new (take k pairs) keep has) (omega (arith, below, keep.many)) some)

-- the amounts of a row are of inputs below the count
pub row_below : (n m : ℕ) (rows : List Row) (k : ℕ) (row : Row) → AllByRecursion (HasInputsBelow n) rows → k < length rows → row ≡ get_or rows k row → m ≡ n
    → AllByRecursion (λ input. input < m) (inputs_of row.household.pairs)
row_below n m rows k row all lt at same = subst (λ (i : ℕ). HasInputsBelow i row) (sym same) (subst (HasInputsBelow n) (sym at) (all_at rows k all lt))
  where
    all_at : (rows : List Row) (k : ℕ) → AllByRecursion (HasInputsBelow n) rows → k < length rows → HasInputsBelow n (get_or rows k row)
    all_at [] k all lt = absurd (omega arith)
    all_at (r ∷ rows) zero all lt = all.0
    all_at (r ∷ rows) (suc k) all lt = all_at rows k all.1 (omega arith)

-- one more row
rows_push : (old new : Places) (rows : List Row) (row : Row) → KeepPlaces old new → AllByRecursion (RowHasPlaces old) rows → RowHasPlaces new row
    → AllByRecursion (RowHasPlaces new) (rows ++ row ∷ [])
rows_push old new [] row keep all has = (has, tt)
rows_push old new (r ∷ rows) row keep all has = (keep_placed old new r.household.pairs keep all.0, rows_push old new rows row keep all.1 has)

pub rows_next : (inputs : ℕ) (old new : Places) (rows : List Row) (k : ℕ) (row : Row) → ArePlaced inputs old (take k rows) → IsPlacing new → KeepPlaces old new
    → k < length rows
    → row ≡ get_or rows k row → HasPlaces new row.household.pairs → ArePlaced inputs new (take (k + 1) rows)
rows_next inputs old new rows k row are placing keep lt at has = record {
  many = keep.many ∙ are.many;
  placing = placing;
  placed = subst (AllByRecursion (RowHasPlaces new)) (ap (λ (r : Row). take k rows ++ r ∷ []) at ∙ sym (take_more rows k row lt))
      (rows_push old new (take k rows) row keep are.placed has);
}

-- ---- lists of values

-- the default for positions past the end is irrelevant within
any_default : {X : Type 0} (xs : List X) (i : ℕ) (d e : X) → i < length xs → get_or xs i d ≡ get_or xs i e
any_default [] i d e lt = absurd (omega arith)
any_default (x ∷ xs) zero d e lt = refl
any_default (x ∷ xs) (suc i) d e lt = any_default xs i d e (omega arith)

-- all undefined is what no pairs give
pub filled_none : (places : Places) (row : List Value) (n : ℕ) → row ≡ replicate n Undef → IsFilled places row []
filled_none places row n is k below = ap (λ (vs : List Value). at vs (place_of places k)) is ∙ undefined n (place_of places k)
  where
    undefined : (n k : ℕ) → at (replicate n Undef) k ≡ Undef
    undefined zero k = refl
    undefined (suc n) zero = refl
    undefined (suc n) (suc k) = undefined n k

-- different inputs have different places from 1 on
one_input : (places : Places) (n m : ℕ) → IsPlacing places → n < length places.of.items → m < length places.of.items → 0 < place_of places n
    → place_of places m ≡ place_of places n → m ≡ n
one_input places n m is n_in m_in some same =
    sym (is.back m m_in (subst (λ (k : ℕ). 0 < k) (sym same) some)) ∙ ap (λ (k : ℕ). get_or places.inputs.items k 0) same ∙ is.back n n_in some

-- one more pair, put first
filled_more : (places : Places) (row : List Value) (pairs : List (ℕ × ℤ)) (pair : ℕ × ℤ) → IsPlacing places → length row ≡ length places.inputs.items
    → pair.0 < length places.of.items
    → 0 < place_of places pair.0 → IsFilled places row pairs → IsFilled places (set row (place_of places pair.0) (Num pair.1)) (pair ∷ pairs)
filled_more places row pairs pair is width below some filled n n_in =
    ⊎_elim
    (λ (same : n ≡ pair.0).
    ap (λ (j : ℕ). at (set row (place_of places pair.0) (Num pair.1)) (place_of places j)) same
    ∙ get_or-set_same row (place_of places pair.0) (Num pair.1) Undef (omega (arith, is.below pair.0 below, width))
    ∙ sym (cond-true (eqb pair.0 n) (Num pair.1) (value_at pairs n) (eq-eqb pair.0 n (sym same))))
    (λ (other : n ≢ pair.0).
    get_or-set_other row (place_of places pair.0) (place_of places n) (Num pair.1) Undef (λ e. other (one_input places pair.0 n is below n_in some e))
    ∙ filled n n_in
    ∙ sym (cond-false (eqb pair.0 n) (Num pair.1) (value_at pairs n) (ne_eqb pair.0 n (λ e. other (sym e)))))
    (cases_eq n pair.0)

-- the properties of a pair at a position
pair_has : (places : Places) (pairs : List (ℕ × ℤ)) (k : ℕ) (d : ℕ × ℤ) → HasPlaces places pairs → k < length pairs
    → ((get_or pairs k d).0 < length places.of.items) × (0 < place_of places (get_or pairs k d).0)
pair_has places [] k d has lt = absurd (omega arith)
pair_has places (p ∷ pairs) zero d has lt = has.0
pair_has places (p ∷ pairs) (suc k) d has lt = pair_has places pairs k d has.1 (omega arith)

pub pair_placed : (places : Places) (pairs given : List (ℕ × ℤ)) (k : ℕ) (pair : ℕ × ℤ) → HasPlaces places pairs → given ≡ pairs → k < length given
    → pair ≡ get_or given k pair
    → (pair.0 < length places.of.items) × (0 < place_of places pair.0)
pair_placed places pairs given k pair has is lt at =
    let has' : HasPlaces places given = subst (HasPlaces places) (sym is) has in
    subst (λ (p : ℕ × ℤ). (p.0 < length places.of.items) × (0 < place_of places p.0)) (sym at) (pair_has places given k pair has' lt)

pub place_is : (places : Places) (n place : ℕ) → n < length places.of.items → place ≡ get_or places.of.items n place → place ≡ place_of places n
place_is places n place below at = at ∙ any_default places.of.items n place 0 below

-- the place of a pair is within the list
pub place_within : (places : Places) (row : List Value) (n place : ℕ) → IsPlacing places → n < length places.of.items → place ≡ get_or places.of.items n place
    → length row ≡ length places.inputs.items → place < length row
place_within places row n place is below at width = let here = is.below n below in let same = place_is places n place below at in omega
    (arith, here, same, width)

-- the next pair, from the last to the first
pub filled_next : (places : Places) (row : List Value) (pairs given : List (ℕ × ℤ)) (left : ℕ) (pair : ℕ × ℤ) (place : ℕ) → IsPlacing places
    → HasPlaces places pairs → given ≡ pairs
    → length row ≡ length places.inputs.items → 0 < left → left ≤ length given → pair ≡ get_or given (left - 1) pair
    → place ≡ get_or places.of.items pair.0 place
    → IsFilled places row (drop left given) → IsFilled places (set row place (Num pair.1)) (drop (left - 1) given)
filled_next places row pairs given left pair place placing has is width some within read at_place filled =
    let k = left - 1 in
    let next : k + 1 ≡ left = omega arith in
    let k_in : k < length given = omega arith in
    let here = pair_placed places pairs given k pair has is k_in read in
    let cut : drop k given ≡ pair ∷ drop left given = drop_more given k pair k_in ∙ (λ i. sym read i ∷ drop (next i) given) in
    subst (λ (p : ℕ). IsFilled places (set row p (Num pair.1)) (drop k given)) (sym (place_is places pair.0 place here.0 at_place))
    (subst (IsFilled places (set row (place_of places pair.0) (Num pair.1))) (sym cut)
    (filled_more places row (drop left given) pair placing width here.0 here.1 filled))

-- a filled list gives the inputs what the pairs do
pub filled_inputs : (places : Places) (row : List Value) (pairs : List (ℕ × ℤ)) → IsFilled places row pairs
    → row_inputs places.of.items row ≡ values_of pairs (length places.of.items)
filled_inputs places row pairs filled =
    let many = length places.of.items in
    same_lists _ _ (length-map places.of.items (at row) ∙ sym (length-values_of pairs many)) (λ k d l.
    let k_in : k < many = omega (arith, l, length-map places.of.items (at row)) in
    get_or-map (at row) places.of.items k 0 d k_in
    ∙ filled k k_in
    ∙ sym (get_or-map (value_at pairs) (range_with_len 0 many) k 0 d (omega (arith, k_in, length-range_with_len 0 many))
    ∙ ap (value_at pairs) (get_or-range_with_len 0 many k 0 k_in ∙ zero-add k)))

-- the row of a list that was replaced
row_put : (block : List (Vec Value Global)) (r : ℕ) (new : Vec Value Global) → r < length block → row_at (set block r new) r ≡ new.items
row_put block r new lt =
    ap (λ (rows : List (List Value)). get_or rows r []) (map-set (λ (v : Vec Value Global). v.items) block r new)
    ∙ get_or-set_same (map (λ (v : Vec Value Global). v.items) block) r new.items [] (omega (arith, lt, length-map block (λ (v : Vec Value Global). v.items)))

row_kept : (block : List (Vec Value Global)) (r k : ℕ) (new : Vec Value Global) → k ≢ r → row_at (set block r new) k ≡ row_at block k
row_kept block r k new other =
    ap (λ (rows : List (List Value)). get_or rows k []) (map-set (λ (v : Vec Value Global). v.items) block r new)
    ∙ get_or-set_other (map (λ (v : Vec Value Global). v.items) block) r k new.items [] other

-- a row of the prefix
pub row_taken : (block : List (Vec Value Global)) (n r : ℕ) → r < n → row_at (take n block) r ≡ row_at block r
row_taken block n r lt =
    ap (λ (rows : List (List Value)). get_or rows r []) (sym (take-map (λ (v : Vec Value Global). v.items) n block))
    ∙ get_or-take n (map (λ (v : Vec Value Global). v.items) block) r [] lt

-- the amounts of one more row
pub values_next : (places : List ℕ) (rows : List Row) (block : List (Vec Value Global)) (r : ℕ) (row : Row) (new : Vec Value Global) → r < length block
    → r < length rows
    → row ≡ get_or rows r row → row_inputs places new.items ≡ values_of row.household.pairs (length places)
    → ((k : ℕ) (d : Row) → k < r → row_inputs places (row_at block k) ≡ values_of (get_or rows k d).household.pairs (length places))
    → (k : ℕ) (d : Row) → k < r + 1 → row_inputs places (row_at (set block r new) k) ≡ values_of (get_or rows k d).household.pairs (length places)
values_next places rows block r row new in_block in_rows at here before k d below =
    ⊎_elim
    (λ (same : k ≡ r).
    ap (λ (j : ℕ). row_inputs places (row_at (set block r new) j)) same
    ∙ ap (row_inputs places) (row_put block r new in_block)
    ∙ here
    ∙ ap (λ (w : Row). values_of w.household.pairs (length places)) (at ∙ any_default rows r row d in_rows ∙ ap (λ (j : ℕ). get_or rows j d) (sym same)))
    (λ (other : k ≢ r). ap (row_inputs places) (row_kept block r k new other) ∙ before k d (omega (arith, below, other)))
    (cases_eq k r)
