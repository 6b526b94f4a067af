-- Distinct names.
use Rattle.std.proofs.Common.{◌≡◌, ℕ, ◌+◌, ◌<◌, zero, suc, Bool, true, false, not, cond, List, [], ◌∷◌, ◌++◌, length, take, get_or, Some, refl, sym, subst, ap}
use Rattle.std.proofs.Common.{◌∙◌, inl, inr, length-take, arith}
use mathlib.Core.Bool.{◌||◌}
use Rattle.std.specs.Str.{bytes_eq}
use Rattle.std.proofs.lemmas.Bool.{or_parts, or_from, or_cases, not-true, false_from_ne_true, false≢true}
use Rattle.std.proofs.lemmas.List.{take_more, get_or_default}
use Rattle.std.proofs.lemmas.Slice.Eq.{bytes_eq-Decides}
use Rattle.m_names.specs.Names.{has, index_of, AreDistinct}
use Rattle.m_names.specs.Faults.{IsFirstRepeat}
use Rattle.m_names.proofs.NameLemmas.{index_of-some}

or_right : (b c : Bool) → c ≡ true → (b || c) ≡ true
or_right true c h = refl
or_right false c h = h

-- the comparison is symmetric
pub bytes_eq-flip : (a b : List ℕ) → bytes_eq a b ≡ false → bytes_eq b a ≡ false
bytes_eq-flip a b h = false_from_ne_true (bytes_eq b a) (λ e. false≢true (sym h ∙ (bytes_eq-Decides a b).1 (sym ((bytes_eq-Decides b a).0 e))))

-- a name is among names that contain it
has-middle : (x y : List ℕ) (xs ys : List (List ℕ)) → x ≡ y → has y (xs ++ x ∷ ys) ≡ true
has-middle x y [] ys e = ap (λ b. b || has y ys) ((bytes_eq-Decides y x).1 (sym e))
has-middle x y (z ∷ xs) ys e = or_right (bytes_eq y z) (has y (xs ++ x ∷ ys)) (has-middle x y xs ys e)

-- a list that contains a name twice isn't distinct
pub twice : (x : List ℕ) (xs ys : List (List ℕ)) → has x xs ≡ true → AreDistinct (xs ++ x ∷ ys) → ⊥
twice x [] ys h d = false≢true h
twice x (y ∷ xs) ys h d =
    elim (or_cases (bytes_eq x y) (has x xs) h) as (λ _. ⊥) [
      | inl e ↦ false≢true (sym d.0 ∙ has-middle x y xs ys ((bytes_eq-Decides x y).0 e))
      | inr e ↦ twice x xs ys e d.1
    ]

-- a name that is neither among names nor the one appended
has-push : (y x : List ℕ) (xs : List (List ℕ)) → has y xs ≡ false → bytes_eq y x ≡ false → has y (xs ++ x ∷ []) ≡ false
has-push y x [] h e = or_from (bytes_eq y x) false e refl
has-push y x (z ∷ xs) h e = or_from (bytes_eq y z) (has y (xs ++ x ∷ [])) (or_parts (bytes_eq y z) (has y xs) h).0
    (has-push y x xs (or_parts (bytes_eq y z) (has y xs) h).1 e)

-- a new name appended to distinct ones
pub AreDistinct-push : (x : List ℕ) (xs : List (List ℕ)) → AreDistinct xs → has x xs ≡ false → AreDistinct (xs ++ x ∷ [])
AreDistinct-push x [] d h = (refl, tt)
AreDistinct-push x (y ∷ xs) d h =
    (has-push y x xs d.0 (bytes_eq-flip x y (or_parts (bytes_eq x y) (has x xs) h).0), AreDistinct-push x xs d.1 (or_parts (bytes_eq x y) (has x xs) h).1)

-- adding a new name keeps names distinct
pub AreDistinct-added : (old new : List (List ℕ)) (name : List ℕ) (fresh : Bool) → fresh ≡ true → fresh ≡ not (has name old)
    → new ≡ cond fresh (old ++ name ∷ []) old → AreDistinct old → AreDistinct new
AreDistinct-added old new name fresh t f e a =
    subst AreDistinct (sym (e ∙ ap (λ b. cond b (old ++ name ∷ []) old) t)) (AreDistinct-push name old a (not-true (has name old) (sym f ∙ t)))

-- a name that isn't among names differs from each
has-get_or : (name : List ℕ) (names : List (List ℕ)) (i : ℕ) (d : List ℕ) → has name names ≡ false → i < length names → bytes_eq name (get_or names i d) ≡ false
has-get_or name [] i d h l = absurd (omega arith)
has-get_or name (n ∷ ns) zero d h l = (or_parts _ _ h).0
has-get_or name (n ∷ ns) (suc i) d h l = has-get_or name ns i d (or_parts _ _ h).1 (omega arith)

-- no name of a distinct list is among those before it
pub has-take : (names : List (List ℕ)) (i : ℕ) (d : List ℕ) → AreDistinct names → i < length names → has (get_or names i d) (take i names) ≡ false
has-take [] i d h l = absurd (omega arith)
has-take (n ∷ ns) zero d h l = refl
has-take (n ∷ ns) (suc i) d h l =
    or_from _ _ (bytes_eq-flip n (get_or ns i d) (has-get_or n ns i d h.0 (omega arith))) (has-take ns i d h.1 (omega arith))

-- after adding the next name, the names are the prefix up to it
pub take-added : (names : List (List ℕ)) (i : ℕ) {known new : List (List ℕ)} {name : List ℕ} {fresh : Bool} (d : List ℕ) → AreDistinct names → i < length names
    → known ≡ take i names → name ≡ get_or names i d
    → fresh ≡ not (has name known) → new ≡ cond fresh (known ++ name ∷ []) known → new ≡ take (i + 1) names
take-added names i {known} {new} {name} {fresh} d distinct l k n f e =
    let unknown : has name known ≡ false = (λ j. has (n j) (k j)) ∙ has-take names i d distinct l in
    let is_fresh : fresh ≡ true = f ∙ ap not unknown in
    e ∙ ap (λ b. cond b (known ++ name ∷ []) known) is_fresh ∙ (λ j. k j ++ n j ∷ []) ∙ sym (take_more names i d l)

-- the same for a new name; the names stay distinct
pub distinct_added : (names : List (List ℕ)) (i : ℕ) {known new : List (List ℕ)} {name : List ℕ} {fresh : Bool} (d : List ℕ) → i < length names
    → known ≡ take i names → AreDistinct known → name ≡ get_or names i d
    → fresh ≡ not (has name known) → fresh ≡ true → new ≡ cond fresh (known ++ name ∷ []) known → (new ≡ take (i + 1) names) × AreDistinct new
distinct_added names i {known} {new} {name} {fresh} d l k distinct n f is_fresh e = (
  e ∙ ap (λ b. cond b (known ++ name ∷ []) known) is_fresh ∙ (λ j. k j ++ n j ∷ []) ∙ sym (take_more names i d l),
  AreDistinct-added known new name fresh is_fresh f e distinct,
)

not_not : (b : Bool) → not b ≡ false → b ≡ true
not_not true h = refl
not_not false h = sym h

-- if the added name isn't new, it is the first repeat
pub first_repeat : (names : List (List ℕ)) (i earlier later : ℕ) {known : List (List ℕ)} {name : List ℕ} {fresh : Bool} (d : List ℕ) → i < length names
    → known ≡ take i names → AreDistinct known → name ≡ get_or names i d
    → later ≡ length known → fresh ≡ not (has name known) → fresh ≡ false → (has name known ≡ true → index_of name known ≡ Some earlier)
    → IsFirstRepeat names earlier later
first_repeat names i earlier later {known} {name} {fresh} d l k distinct n e f not_fresh number =
    let place : later ≡ i = omega (arith, e, ap length k, length-take i names) in
    let front : known ≡ take later names = k ∙ ap (λ j. take j names) (sym place) in
    let at : name ≡ get_or names later [] = n ∙ get_or_default names i d [] l ∙ ap (λ j. get_or names j []) (sym place) in
    record {
      within = omega (arith, place, l);
      distinct = subst AreDistinct front distinct;
      first = (λ j. index_of (sym at j) (sym front j)) ∙ number (not_not (has name known) (sym f ∙ not_fresh));
    }

-- names with a repeat aren't distinct
pub repeat_twice : (names : List (List ℕ)) (earlier later : ℕ) → IsFirstRepeat names earlier later → AreDistinct names → ⊥
repeat_twice names earlier later r d =
    false≢true (sym (has-take names later [] d r.within) ∙ (index_of-some (get_or names later []) (take later names) earlier r.first).0)
