-- Groups of cells, value by value.
use Rattle.std.proofs.Common.{◌≡◌, ◌+◌, ◌<◌, ◌≤◌, ℕ, ℤ, Bool, true, false, cond, List, [], ◌∷◌, ◌++◌, refl, sym, ap, ◌∙◌, append_assoc, not, ◌^◌, lit<, arith}
use mathlib.Core.Bool.{◌||◌, ◌&&◌}
use Rattle.std.proofs.lemmas.List.{append-nil}
use Rattle.std.proofs.lemmas.Bool.{false≢true}
use Rattle.std.proofs.lemmas.Bool.Decides.{Decides-int_eq}
use Rattle.std.specs.List.{list_any}
use Rattle.std.specs.Ordering.{int_eq, int_cmp}
use Rattle.std.specs.BTreeSet.{BTreeSet, contains}
use Rattle.std.specs.Int.{w128, cast_unsigned, cast_signed}
use Rattle.std.proofs.lemmas.Int.{to_z-of_z, fits_signed_from_abs}
use Rattle.m_fixed.specs.Amounts.{IsAmount, most}
use Rattle.m_fixed.proofs.Products.{size_of_amount}
use Rattle.m_names.proofs.NameLemmas.{not-true}
use Rattle.std.specs.Prelude.{Option, Some, None}
use Rattle.m_names.specs.Names.{index_of}
use Rattle.m_symbols.specs.declared.variable.Variable.{Variable}
use Rattle.m_symbols.specs.Kinds.{is_one_of, last_value}
use Rattle.m_ast.specs.Items.{is_input}
use Rattle.driver_core.specs.declared.kind_index.KindIndex.{KindIndex}
use Rattle.driver_core.specs.Ascending.{times}
use Rattle.driver_core.specs.Groups.{group_at, group_of, joined, groups_at, groups_of, groups_in}
use Rattle.driver_core.specs.Kinds.{of_kind, cells_with, IsIndexOf}
use Rattle.driver_core.proofs.Orders.{times-append}

pub joined-push : (index : KindIndex) (a : ℕ) (vs : List ℤ) (v : ℤ) → joined index a (vs ++ v ∷ []) ≡ joined index a vs ++ group_at index a v
joined-push index a [] v = append-nil (group_at index a v)
joined-push index a (w ∷ vs) v = ap (λ l. group_at index a w ++ l) (joined-push index a vs v)
    ∙ sym (append_assoc (group_at index a w) (joined index a vs) (group_at index a v))

-- ---- distinct values

pub same-int : (x y : ℤ) → int_eq x y ≡ true → x ≡ y
same-int x y = (Decides-int_eq x y).0

flip-by : (x y : ℤ) (b c : Bool) → int_eq x y ≡ b → int_eq y x ≡ c → b ≡ c
flip-by x y true true e f = refl
flip-by x y true false e f = absurd (false≢true (sym f ∙ (Decides-int_eq y x).1 (sym (same-int x y e))))
flip-by x y false true e f = absurd (false≢true (sym e ∙ (Decides-int_eq x y).1 (sym (same-int y x f))))
flip-by x y false false e f = refl

or-cond : (b c : Bool) → cond b true c ≡ (b || c)
or-cond true c = refl
or-cond false c = refl

-- one more value is seen
pub seen-more : (old new : BTreeSet ℤ) (value w : ℤ) → w ≡ value → ((q : ℤ) → contains int_cmp new q ≡ cond (int_eq w q) true (contains int_cmp old q))
    → (v : ℤ) → contains int_cmp new v ≡ (int_eq v value || contains int_cmp old v)
seen-more old new value w e u v =
    u v ∙ ap (λ x. cond (int_eq x v) true (contains int_cmp old v)) e
    ∙ ap (λ b. cond b true (contains int_cmp old v)) (flip-by value v (int_eq value v) (int_eq v value) refl refl)
    ∙ or-cond (int_eq v value) (contains int_cmp old v)

-- a value that wasn't seen is kept
pub kept-more : (seen : BTreeSet ℤ) (index : KindIndex) (a : ℕ) (value w : ℤ) (fresh : Bool) (old new : List ℕ) → w ≡ value
    → fresh ≡ not (contains int_cmp seen w) → fresh ≡ true → new ≡ old ++ group_at index a value
    → new ≡ old ++ cond (contains int_cmp seen value) [] (group_at index a value)
kept-more seen index a value w fresh old new e f t g =
    g ∙ ap (λ b. old ++ cond b [] (group_at index a value)) (sym (ap (contains int_cmp seen) (sym e) ∙ not-true (contains int_cmp seen w) (sym f ∙ t)))

-- an amount fits 128 bits
below_half : (n : ℕ) → n ≤ most → n < 2 ^ 127
below_half n h = let l : most < 2 ^ 127 = lit< tt in omega (arith, h, l)

pub amount-kept : (z : ℤ) → IsAmount z → cast_signed w128 (cast_unsigned w128 z) ≡ z
amount-kept z h = to_z-of_z w128 z (fits_signed_from_abs w128 z (below_half _ (size_of_amount z h)))

-- a repeated value adds nothing
again : (y v : ℤ) (vs : List ℤ) (b : Bool) → int_eq y v ≡ b → list_any (int_eq v) vs ≡ true → (b || list_any (int_eq y) vs) ≡ list_any (int_eq y) vs
again y v vs true e h = let s = same-int y v e in sym (ap (λ x. list_any (int_eq x) vs) s ∙ h)
again y v vs false e h = refl

-- a value that doesn't occur again differs from those after it
apart : (y v : ℤ) (vs : List ℤ) (b : Bool) → int_eq y v ≡ b → list_any (int_eq v) vs ≡ false → list_any (int_eq y) vs ≡ true → b ≡ false
apart y v vs true e h k = let s = same-int y v e in absurd (false≢true (sym h ∙ ap (λ x. list_any (int_eq x) vs) (sym s) ∙ k))
apart y v vs false e h k = refl

times-two : (c n : ℕ) (a b : Bool) → (b ≡ true → a ≡ false)
    → times c (cond (a || b) (n ∷ []) []) ≡ times c (cond (a || false) (n ∷ []) []) + times c (cond b (n ∷ []) [])
times-two c n true true h = absurd (false≢true (sym (h refl)))
times-two c n true false h = omega arith
times-two c n false true h = omega arith
times-two c n false false h = refl

-- the cell of one variable
one-again : (a : List ℕ) (v : ℤ) (vs : List ℤ) (i : Bool) (o : Option ℤ) → list_any (int_eq v) vs ≡ true → (i && is_one_of o (v ∷ vs)) ≡ (i && is_one_of o vs)
one-again a v vs false o h = refl
one-again a v vs true None h = refl
one-again a v vs true (Some y) h = again y v vs (int_eq y v) refl h

one-more : (c n : ℕ) (v : ℤ) (vs : List ℤ) (i : Bool) (o : Option ℤ) → list_any (int_eq v) vs ≡ false
    → times c (cond (i && is_one_of o (v ∷ vs)) (n ∷ []) []) ≡ times c (cond (i && is_one_of o (v ∷ [])) (n ∷ []) []) + times c
    (cond (i && is_one_of o vs) (n ∷ []) [])
one-more c n v vs false o h = refl
one-more c n v vs true None h = refl
one-more c n v vs true (Some y) h = times-two c n (int_eq y v) (list_any (int_eq y) vs) (apart y v vs (int_eq y v) refl h)

with-again : (a : List ℕ) (v : ℤ) (vs : List ℤ) (all : List Variable) → list_any (int_eq v) vs ≡ true → cells_with a (v ∷ vs) all ≡ cells_with a vs all
with-again a v vs [] h = refl
with-again a v vs (x ∷ all) h =
    λ i. cond (one-again a v vs (is_input x.item.role) (last_value a x.item.pairs) h i) (x.first_cell ∷ []) [] ++ with-again a v vs all h i

with-more : (c : ℕ) (a : List ℕ) (v : ℤ) (vs : List ℤ) (all : List Variable) → list_any (int_eq v) vs ≡ false
    → times c (cells_with a (v ∷ vs) all) ≡ times c (cells_with a (v ∷ []) all) + times c (cells_with a vs all)
with-more c a v vs [] h = refl
with-more c a v vs (x ∷ all) h =
    let p = times-append c (of_kind a (v ∷ vs) x) (cells_with a (v ∷ vs) all) in
    let q = times-append c (of_kind a (v ∷ []) x) (cells_with a (v ∷ []) all) in
    let r = times-append c (of_kind a vs x) (cells_with a vs all) in
    let s = one-more c x.first_cell v vs (is_input x.item.role) (last_value a x.item.pairs) h in
    let t = with-more c a v vs all h in
    omega (arith, p, q, r, s, t)

none-by : (a : List ℕ) (all : List Variable) (i : Bool) (o : Option ℤ) (n : ℕ) → cells_with a [] all ≡ []
    → cond (i && is_one_of o []) (n ∷ []) [] ++ cells_with a [] all ≡ []
none-by a all false o n h = h
none-by a all true None n h = h
none-by a all true (Some y) n h = h

with-none : (a : List ℕ) (all : List Variable) → cells_with a [] all ≡ []
with-none a [] = refl
with-none a (x ∷ all) = none-by a all (is_input x.item.role) (last_value a x.item.pairs) x.first_cell (with-none a all)

-- one more value, unless it occurs again
pub kept-turn : (c : ℕ) (old now group rest : List ℕ) (s t : Bool) → now ≡ old ++ cond s [] group → s ≡ t → times c old ≡ times c rest
    → times c now ≡ times c (cond t [] group ++ rest)
kept-turn c old now group rest s t e f h =
    let a = ap (times c) (e ∙ ap (λ b. old ++ cond b [] group) f) in
    let p = times-append c old (cond t [] group) in
    let q = times-append c (cond t [] group) rest in
    omega (arith, a, p, q, h)

-- ---- an index

-- the group of one more value, unless it occurs again
more-by : (c : ℕ) (all : List Variable) (a : List ℕ) (v : ℤ) (vs : List ℤ) (group rest : List ℕ) (b : Bool) → list_any (int_eq v) vs ≡ b
    → group ≡ cells_with a (v ∷ []) all → times c rest ≡ times c (cells_with a vs all)
    → times c (cond b [] group ++ rest) ≡ times c (cells_with a (v ∷ vs) all)
more-by c all a v vs group rest true e g h = h ∙ sym (ap (times c) (with-again a v vs all e))
more-by c all a v vs group rest false e g h =
    let p = times-append c group rest in
    let k = ap (times c) g in
    let m = with-more c a v vs all e in
    omega (arith, p, h, k, m)

nothing-by : (c : ℕ) (all : List Variable) (a : List ℕ) (v : ℤ) (vs : List ℤ) (b : Bool) → list_any (int_eq v) vs ≡ b → [] ≡ cells_with a (v ∷ []) all
    → times c [] ≡ times c (cells_with a vs all)
    → times c [] ≡ times c (cells_with a (v ∷ vs) all)
nothing-by c all a v vs true e g h = h ∙ sym (ap (times c) (with-again a v vs all e))
nothing-by c all a v vs false e g h =
    let k = ap (times c) g in
    let m = with-more c a v vs all e in
    omega (arith, h, k, m)

-- the groups of an attribute's distinct values have the cells of the kind
groups-of : (c : ℕ) (all : List Variable) (index : KindIndex) (a : List ℕ) (n : Option ℕ) → ((v : ℤ) → group_of index v n ≡ cells_with a (v ∷ []) all)
    → (vs : List ℤ)
    → times c (groups_of index vs n) ≡ times c (cells_with a vs all)
groups-of c all index a None g [] = sym (ap (times c) (with-none a all))
groups-of c all index a None g (v ∷ vs) = nothing-by c all a v vs (list_any (int_eq v) vs) refl (g v) (groups-of c all index a None g vs)
groups-of c all index a (Some n) g [] = sym (ap (times c) (with-none a all))
groups-of c all index a (Some n) g (v ∷ vs) = more-by c all a v vs (group_at index n v) (groups_at index n vs) (list_any (int_eq v) vs) refl (g v)
    (groups-of c all index a (Some n) g vs)

pub groups-with : (c : ℕ) (all : List Variable) (index : KindIndex) (a : List ℕ) (vs : List ℤ) → IsIndexOf all index
    → times c (groups_in index a vs) ≡ times c (cells_with a vs all)
groups-with c all index a vs h = groups-of c all index a (index_of a index.attributes) (h a) vs
