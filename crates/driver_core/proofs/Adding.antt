-- An index after one more cell.
use Rattle.std.proofs.Common.{◌≡◌, ◌≤◌, ◌<◌, ◌+◌, ◌-◌, ℕ, ℤ, zero, suc, Bool, true, false, cond, not, ltb, List, [], ◌∷◌, ◌++◌, length, drop, get_or, inl, inr}
use Rattle.std.proofs.Common.{refl, sym, ap, ◌∙◌, subst, append_assoc, length-append, add-one, arith}
use mathlib.Core.Bool.{◌||◌, ◌&&◌}
use Rattle.std.specs.Prelude.{Option, Some, None, slice_get}
use Rattle.std.specs.declared.cmp.Ordering.{Ordering}
use Rattle.std.specs.declared.cmp.Ordering.TheVariants.{Less, Equal, Greater}
use Rattle.std.specs.Ordering.{nat_cmp, int_cmp, int_eq, is_eq, ordering_then}
use Rattle.std.specs.Option.{option_map, option_or, is_some}
use Rattle.std.specs.BTreeMap.{BTreeMap, get}
use Rattle.std.specs.Str.{bytes_eq}
use Rattle.std.specs.declared.alloc.Global.{Global}
use Rattle.std.specs.declared.vec.Vec.{Vec}
use Rattle.std.proofs.lemmas.Bool.{eq-eqb, ltb-true, false≢true}
use Rattle.std.proofs.lemmas.List.{append-nil, drop_more}
use Rattle.std.proofs.lemmas.Map.Lookups.{exact_unsigned}
use Rattle.m_names.specs.Names.{has, index_of}
use Rattle.m_names.proofs.NameLemmas.{same, itself, or-false, shifted-some, index_of-some}
use Rattle.m_symbols.specs.declared.variable.Variable.{Variable}
use Rattle.m_symbols.specs.Kinds.{last_value, is_one_of}
use Rattle.driver_core.specs.declared.kind_index.KindIndex.{KindIndex}
use Rattle.driver_core.specs.Groups.{key_order, cells_of, group_at, group_of, group_in}
use Rattle.driver_core.specs.Kinds.{of_kind, cells_with}
use Rattle.driver_core.specs.inner.Numbers.{HasNumber}
use Rattle.driver_core.proofs.GroupLemmas.{same-int}

-- ---- keys

not-below-by : (n : ℕ) (b : Bool) → ltb n n ≡ b → b ≡ false
not-below-by n true e = let h = ltb-true n n e in absurd (omega (arith, h))
not-below-by n false e = refl

nat-self : (n : ℕ) → nat_cmp n n ≡ Equal
nat-self n = λ i. cond (not-below-by n (ltb n n) refl i) Less (cond (eq-eqb n n refl i) Equal Greater)

key-same : (n : ℕ) (x v : ℤ) → is_eq (key_order (n, x) (n, v)) ≡ int_eq x v
key-same n x v = ap (λ o. is_eq (ordering_then o (int_cmp x v))) (nat-self n)

key-other-by : (n m : ℕ) (p o : Ordering) → nat_cmp n m ≡ o → (n ≡ m → ⊥) → is_eq (ordering_then o p) ≡ false
key-other-by n m p Less e h = refl
key-other-by n m p Equal e h = absurd (h (exact_unsigned n m e))
key-other-by n m p Greater e h = refl

key-other : (n m : ℕ) (x v : ℤ) → (n ≡ m → ⊥) → is_eq (key_order (n, x) (m, v)) ≡ false
key-other n m x v h = key-other-by n m (int_cmp x v) (nat_cmp n m) refl h

-- ---- numbers of attributes

inj-by : (a b n : List ℕ) (o q : Option ℕ) (s t : Bool) (i : ℕ) → bytes_eq a n ≡ s → bytes_eq b n ≡ t → cond s (Some 0) (option_map (λ k. k + 1) o) ≡ Some i
    → cond t (Some 0) (option_map (λ k. k + 1) q) ≡ Some i
    → ((k : ℕ) → o ≡ Some k → q ≡ Some k → a ≡ b) → a ≡ b
inj-by a b n o q true true i e f g h rest = same a n e ∙ sym (same b n f)
inj-by a b n o q true false i e f g h rest = let z : 0 ≡ i = cc in let k = shifted-some q i h in absurd (omega (arith, z, k.2))
inj-by a b n o q false true i e f g h rest = let z : 0 ≡ i = cc in let k = shifted-some o i g in absurd (omega (arith, z, k.2))
inj-by a b n o q false false i e f g h rest =
    let k = shifted-some o i g in
    let l = shifted-some q i h in
    let m : l.0 ≡ k.0 = omega (arith, k.2, l.2) in
    rest k.0 k.1 (l.1 ∙ ap (λ j. Some j) m)

index-inj : (a b : List ℕ) (ns : List (List ℕ)) (i : ℕ) → index_of a ns ≡ Some i → index_of b ns ≡ Some i → a ≡ b
index-inj a b [] i e f = absurd (cc)
index-inj a b (n ∷ ns) i e f = inj-by a b n (index_of a ns) (index_of b ns) (bytes_eq a n) (bytes_eq b n) i refl refl e f (index-inj a b ns)

push-self : (x : List ℕ) (ns : List (List ℕ)) → has x ns ≡ false → index_of x (ns ++ x ∷ []) ≡ Some (length ns)
push-self x [] h = ap (λ b. cond b (Some 0) None) (itself x)
push-self x (n ∷ ns) h =
    let p = or-false (bytes_eq x n) (has x ns) h in
    ap (λ b. cond b (Some 0) (option_map (λ k. k + 1) (index_of x (ns ++ x ∷ [])))) p.0
    ∙ ap (option_map (λ k. k + 1)) (push-self x ns p.1)
    ∙ ap (λ k. Some k) (add-one (length ns))

push-other : (a x : List ℕ) (ns : List (List ℕ)) → bytes_eq a x ≡ false → index_of a (ns ++ x ∷ []) ≡ index_of a ns
push-other a x [] h = ap (λ b. cond b (Some 0) None) h
push-other a x (n ∷ ns) h = ap (λ o. cond (bytes_eq a n) (Some 0) (option_map (λ k. k + 1) o)) (push-other a x ns h)

missing-by : (x : List ℕ) (ns : List (List ℕ)) (o : Option ℕ) → index_of x ns ≡ o → has x ns ≡ false → o ≡ None
missing-by x ns None f e = refl
missing-by x ns (Some i) f e = absurd (false≢true (sym e ∙ (index_of-some x ns i f).0))

missing : (x : List ℕ) (ns : List (List ℕ)) → has x ns ≡ false → index_of x ns ≡ None
missing x ns e = missing-by x ns (index_of x ns) refl e

own-number : (old new : List (List ℕ)) (x : List ℕ) (n : ℕ) → HasNumber old x n new → index_of x new ≡ Some n
own-number old new x n (inl h) = ap (index_of x) h.1 ∙ h.0
own-number old new x n (inr h) = ap (index_of x) h.2 ∙ push-self x old h.0 ∙ ap (λ k. Some k) (sym h.1)

other-number : (old new : List (List ℕ)) (x a : List ℕ) (n : ℕ) → HasNumber old x n new → bytes_eq a x ≡ false → index_of a new ≡ index_of a old
other-number old new x a n (inl h) e = ap (index_of a) h.1
other-number old new x a n (inr h) e = ap (index_of a) h.2 ∙ push-other a x old e

differs : (old new : List (List ℕ)) (x a : List ℕ) (n m : ℕ) → HasNumber old x n new → bytes_eq a x ≡ false → index_of a old ≡ Some m → n ≡ m → ⊥
differs old new x a n m (inl h) e f k =
    let s = index-inj a x old m f (h.0 ∙ ap (λ j. Some j) k) in
    false≢true (sym e ∙ ap (λ y. bytes_eq y x) s ∙ itself x)
differs old new x a n m (inr h) e f k = let w = (index_of-some a old m f).1 in omega (arith, w, h.1, k)

grows : (old new : List (List ℕ)) (x : List ℕ) (n : ℕ) → HasNumber old x n new → length old ≤ length new
grows old new x n (inl h) = let k = ap length h.1 in omega (arith, k)
grows old new x n (inr h) = let k = ap length h.2 in let l = length-append old (x ∷ []) in omega (arith, k, l)

-- ---- one more cell

module _ (names later : List (List ℕ)) (groups after : BTreeMap (ℕ × ℤ) (Vec ℕ Global)) (x : List ℕ) (n : ℕ) (value : ℤ) (cell : ℕ)
    (number : HasNumber names x n later)
    (here : cells_of (get key_order after (n, value)) ≡ cells_of (get key_order groups (n, value)) ++ cell ∷ [])
    (others : (m : ℕ) (v : ℤ) → is_eq (key_order (n, value) (m, v)) ≡ false → get key_order after (m, v) ≡ get key_order groups (m, v))
    (numbered : (m : ℕ) (v : ℤ) → length names ≤ m → get key_order groups (m, v) ≡ None) where
  abbrev before : KindIndex
  before = record { attributes = names; groups = groups }

  abbrev behind : KindIndex
  behind = record { attributes = later; groups = after }

  -- the group of the attribute itself
  own-by : (v : ℤ) (b : Bool) → int_eq value v ≡ b → cells_of (get key_order after (n, v)) ≡ cells_of (get key_order groups (n, v)) ++ cond b (cell ∷ []) []
  own-by v true e = subst (λ (y : ℤ). cells_of (get key_order after (n, y)) ≡ cells_of (get key_order groups (n, y)) ++ cell ∷ []) (same-int value v e) here
  own-by v false e = ap cells_of (others n v (key-same n value v ∙ e)) ∙ sym (append-nil (cells_of (get key_order groups (n, v))))

  old-by : (v : ℤ) (h : HasNumber names x n later) → group_of before v (index_of x names) ≡ cells_of (get key_order groups (n, v))
  old-by v (inl h) = ap (group_of before v) h.0
  old-by v (inr h) = ap (group_of before v) (missing x names h.0) ∙ sym (ap cells_of (numbered n v (omega (arith, h.1))))

  other-by : (v : ℤ) (o : Option ℕ) → ((m : ℕ) → o ≡ Some m → n ≡ m → ⊥) → group_of behind v o ≡ group_of before v o ++ []
  other-by v None d = refl
  other-by v (Some m) d = ap cells_of (others m v (key-other n m value v (d m refl))) ∙ sym (append-nil (group_at before m v))

  added-by : (a : List ℕ) (v : ℤ) (b : Bool) → bytes_eq a x ≡ b → group_in behind a v ≡ group_in before a v ++ cond (b && int_eq value v) (cell ∷ []) []
  added-by a v true e =
      subst (λ y. group_in behind y v ≡ group_in before y v ++ cond (int_eq value v) (cell ∷ []) []) (sym (same a x e))
      (ap (group_of behind v) (own-number names later x n number) ∙ own-by v (int_eq value v) refl
      ∙ ap (λ l. l ++ cond (int_eq value v) (cell ∷ []) []) (sym (old-by v number)))
  added-by a v false e =
      ap (group_of behind v) (other-number names later x a n number e) ∙ other-by v (index_of a names) (λ m f. differs names later x a n m number e f)

  pub added : (a : List ℕ) (v : ℤ) → group_in behind a v ≡ group_in before a v ++ cond (bytes_eq a x && int_eq value v) (cell ∷ []) []
  added a v = added-by a v (bytes_eq a x) refl

  pub still-numbered : (m : ℕ) (v : ℤ) → length later ≤ m → get key_order after (m, v) ≡ None
  still-numbered m v h =
      let w = (index_of-some x later n (own-number names later x n number)).1 in
      let g = grows names later x n number in
      others m v (key-other n m value v (λ k. omega (arith, w, h, k))) ∙ numbered m v (omega (arith, g, h))

-- ---- the pairs of an input, from the last to the first

pub or-nothing : (t : Bool) → (t || false) ≡ t
or-nothing true = refl
or-nothing false = refl

-- a pair whose attribute has a value already
taken-by : (o : Option ℤ) (value v : ℤ) (cell : ℕ) (first : List ℕ) (s b : Bool) → (b ≡ true → s ≡ is_some o)
    → (first ++ cond (is_one_of o (v ∷ [])) (cell ∷ []) []) ++ cond (not s && (b && int_eq value v)) (cell ∷ []) []
    ≡ first ++ cond (is_one_of (option_or o (cond b (Some value) None)) (v ∷ [])) (cell ∷ []) []
taken-by None value v cell first true false h = append-nil (first ++ [])
taken-by None value v cell first false false h = append-nil (first ++ [])
taken-by None value v cell first true true h = absurd (false≢true (sym (h refl)))
taken-by None value v cell first false true h = ap (λ l. l ++ cond (int_eq value v) (cell ∷ []) []) (append-nil first)
    ∙ ap (λ t. first ++ cond t (cell ∷ []) []) (sym (or-nothing (int_eq value v)))
taken-by (Some y) value v cell first false true h = absurd (false≢true (h refl))
taken-by (Some y) value v cell first true b h = append-nil (first ++ cond (is_one_of (Some y) (v ∷ [])) (cell ∷ []) [])
taken-by (Some y) value v cell first false false h = append-nil (first ++ cond (is_one_of (Some y) (v ∷ [])) (cell ∷ []) [])

-- the attributes seen so far
seen-by : (o : Option ℤ) (value : ℤ) (s b : Bool) → s ≡ is_some o → (s || b) ≡ is_some (option_or o (cond b (Some value) None))
seen-by None value s true h = ap (λ t. t || true) h
seen-by None value s false h = ap (λ t. t || false) h
seen-by (Some y) value s b h = ap (λ t. t || b) h

-- one more pair
pub one-seen : (ps : List (List ℕ × ℤ)) (pair : List ℕ × ℤ) (seen now : List (List ℕ)) → ((a : List ℕ) → has a seen ≡ is_some (last_value a ps))
    → ((a : List ℕ) → has a now ≡ (has a seen || bytes_eq a pair.0))
    → (a : List ℕ) → has a now ≡ is_some (last_value a (pair ∷ ps))
one-seen ps pair seen now h k a = k a ∙ seen-by (last_value a ps) pair.1 (has a seen) (bytes_eq a pair.0) (h a)

pub one-taken : (ps : List (List ℕ × ℤ)) (pair : List ℕ × ℤ) (seen : List (List ℕ)) (cell : ℕ) (first so_far now : KindIndex)
    → ((a : List ℕ) → has a seen ≡ is_some (last_value a ps))
    → ((a : List ℕ) (v : ℤ) → group_in so_far a v ≡ group_in first a v ++ cond (is_one_of (last_value a ps) (v ∷ [])) (cell ∷ []) [])
    → ((a : List ℕ) (v : ℤ) → group_in now a v ≡ group_in so_far a v ++ cond (not (has pair.0 seen) && (bytes_eq a pair.0 && int_eq pair.1 v)) (cell ∷ []) [])
    → (a : List ℕ) (v : ℤ) → group_in now a v ≡ group_in first a v ++ cond (is_one_of (last_value a (pair ∷ ps)) (v ∷ [])) (cell ∷ []) []
one-taken ps pair seen cell first so_far now h k g a v =
    g a v
    ∙ ap (λ l. l ++ cond (not (has pair.0 seen) && (bytes_eq a pair.0 && int_eq pair.1 v)) (cell ∷ []) []) (k a v)
    ∙ taken-by (last_value a ps) pair.1 v cell (group_in first a v) (has pair.0 seen) (bytes_eq a pair.0) (λ e. ap (λ y. has y seen) (sym (same a pair.0 e))
    ∙ h a)

-- the last of the remaining ones, before those done
pub back-one : {A : Type 0} (xs : List A) (left : ℕ) (x : A) → 0 < left → left ≤ length xs → x ≡ get_or xs (left - 1) x → drop (left - 1) xs ≡ x ∷ drop left xs
back-one xs left x h k e =
    let l : left - 1 < length xs = omega (arith, h, k) in
    let n : (left - 1) + 1 ≡ left = omega (arith, h) in
    drop_more xs (left - 1) x l ∙ (λ i. sym e i ∷ drop (n i) xs)

pub front-one : {A : Type 0} (xs : List A) (i : ℕ) (x : A) → i < length xs → x ≡ get_or xs i x → drop i xs ≡ x ∷ drop (i + 1) xs
front-one xs i x l e = drop_more xs i x l ∙ ap (λ y. y ∷ drop (i + 1) xs) (sym e)

-- ---- variables in order

suc-turn : (vs : List Variable) (i : ℕ) (x : Variable) (a : List ℕ) (values : List ℤ) → slice_get vs i ≡ Some x
    → cells_with a values (drop i vs) ≡ of_kind a values x ++ cells_with a values (drop (suc i) vs)
suc-turn [] i x a values e = absurd (cc)
suc-turn (y ∷ vs) zero x a values e = let s : y ≡ x = cc in ap (λ z. of_kind a values z ++ cells_with a values vs) s
suc-turn (y ∷ vs) (suc i) x a values e = suc-turn vs i x a values e

pub turn : (vs : List Variable) (i : ℕ) (x : Variable) (so_far now : KindIndex) → slice_get vs i ≡ Some x
    → ((a : List ℕ) (v : ℤ) → group_in so_far a v ++ cells_with a (v ∷ []) (drop i vs) ≡ cells_with a (v ∷ []) vs)
    → ((a : List ℕ) (v : ℤ) → group_in now a v ≡ group_in so_far a v ++ of_kind a (v ∷ []) x)
    → (a : List ℕ) (v : ℤ) → group_in now a v ++ cells_with a (v ∷ []) (drop (i + 1) vs) ≡ cells_with a (v ∷ []) vs
turn vs i x so_far now e h k a v =
    let one : i + 1 ≡ suc i = omega arith in
    ap (λ j. group_in now a v ++ cells_with a (v ∷ []) (drop j vs)) one
    ∙ ap (λ l. l ++ cells_with a (v ∷ []) (drop (suc i) vs)) (k a v)
    ∙ append_assoc (group_in so_far a v) (of_kind a (v ∷ []) x) (cells_with a (v ∷ []) (drop (suc i) vs))
    ∙ ap (λ l. group_in so_far a v ++ l) (sym (suc-turn vs i x a (v ∷ []) e))
    ∙ h a v
