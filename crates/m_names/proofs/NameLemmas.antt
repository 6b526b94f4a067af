-- Names, and lists of variables by their names.
use Rattle.std.proofs.Common.{◌≡◌, ℕ, ◌+◌, ◌<◌, Bool, true, false, not, cond, suc, List, [], ◌∷◌, ◌++◌, length, Option, Some, None, refl, sym, ◌∙◌, subst}
use Rattle.std.proofs.Common.{arith, add-one}
use mathlib.Core.Bool.{◌||◌, ◌&&◌}
use Rattle.std.specs.Option.{option_map}
use Rattle.std.specs.Str.{bytes_eq}
use Rattle.std.proofs.lemmas.Slice.Eq.{bytes_eq-Decides}
use Rattle.std.proofs.lemmas.Bool.{false≢true}
use Rattle.m_names.specs.Names.{has, index_of}

pub same : (a b : List ℕ) → bytes_eq a b ≡ true → a ≡ b
same a b = (bytes_eq-Decides a b).0

pub itself : (a : List ℕ) → bytes_eq a a ≡ true
itself a = (bytes_eq-Decides a a).1 refl

-- case distinction on a Boolean
pub cases : (b : Bool) {P : Type 0} → (b ≡ true → P) → (b ≡ false → P) → P
cases true t f = t refl
cases false t f = f refl

pub not-true : (b : Bool) → not b ≡ true → b ≡ false
not-true true e = absurd (false≢true e)
not-true false e = refl

pub bytes_eq_comm : (a b : List ℕ) → bytes_eq a b ≡ bytes_eq b a
bytes_eq_comm a b = cases (bytes_eq a b)
    (λ (t : bytes_eq a b ≡ true). let e = same a b t in subst (λ (x : List ℕ). bytes_eq a x ≡ bytes_eq x a) e refl)
    (λ (f : bytes_eq a b ≡ false). cases (bytes_eq b a)
    (λ (t : bytes_eq b a ≡ true). absurd (false≢true (sym f ∙ subst (λ (x : List ℕ). bytes_eq a x ≡ true) (sym (same b a t)) (itself a))))
    (λ (g : bytes_eq b a ≡ false). f ∙ sym g))

pub or-false : (a b : Bool) → (a || b) ≡ false → (a ≡ false) × (b ≡ false)
or-false true b e = absurd (false≢true (sym e))
or-false false b e = (refl, e)

pub or-true_right : (a b : Bool) → b ≡ true → (a || b) ≡ true
or-true_right true b e = refl
or-true_right false b e = e

pub both : (a b : Bool) → (a && b) ≡ true → (a ≡ true) × (b ≡ true)
both true b e = (refl, e)
both false b e = absurd (false≢true e)

pub and-both : (a b : Bool) → a ≡ true → b ≡ true → (a && b) ≡ true
and-both true b e f = f
and-both false b e f = absurd (false≢true e)

pub has-append : (x : List ℕ) (ns ms : List (List ℕ)) → has x (ns ++ ms) ≡ (has x ns || has x ms)
has-append x [] ms = refl
has-append x (n ∷ ns) ms = elim (bytes_eq x n) as (λ b. (b || has x (ns ++ ms)) ≡ ((b || has x ns) || has x ms)) [ true ↦ refl | false ↦ has-append x ns ms ]

-- no index in the longer list: none in the shorter
shifted-none : (o : Option ℕ) → option_map (λ i. i + 1) o ≡ None → o ≡ None
shifted-none None e = refl
shifted-none (Some i) e = cc

pub shifted-some : (o : Option ℕ) (j : ℕ) → option_map (λ i. i + 1) o ≡ Some j → (i : ℕ) × (o ≡ Some i) × (j ≡ suc i)
shifted-some None j e = cc
shifted-some (Some i) j e = let h : i + 1 ≡ j = cc in (i, refl, sym h ∙ add-one i)

-- a name without an index isn't among the names
absent : (b : Bool) (o : Option ℕ) (c : Bool) → cond b (Some 0) (option_map (λ i. i + 1) o) ≡ None → (o ≡ None → c ≡ false) → (b || c) ≡ false
absent true o c e f = cc
absent false o c e f = f (shifted-none o e)

pub index_of-none : (x : List ℕ) (ns : List (List ℕ)) → index_of x ns ≡ None → has x ns ≡ false
index_of-none x [] e = refl
index_of-none x (n ∷ ns) e = absent (bytes_eq x n) (index_of x ns) (has x ns) e (index_of-none x ns)

present : (b : Bool) (o : Option ℕ) (c : Bool) (n j : ℕ) → cond b (Some 0) (option_map (λ i. i + 1) o) ≡ Some j → ((i : ℕ) → o ≡ Some i → (c ≡ true) × (i < n))
    → ((b || c) ≡ true) × (j < suc n)
present true o c n j e f = let h : 0 ≡ j = cc in (refl, omega arith)
present false o c n j e f =
    let s = shifted-some o j e in
    let h = f s.0 s.1 in
    (h.0, omega (arith, s.2, h.1))

pub index_of-some : (x : List ℕ) (ns : List (List ℕ)) (i : ℕ) → index_of x ns ≡ Some i → (has x ns ≡ true) × (i < length ns)
index_of-some x [] i e = cc
index_of-some x (n ∷ ns) i e = present (bytes_eq x n) (index_of x ns) (has x ns) (length ns) i e (index_of-some x ns)

-- a name's number is below the length of any list as long as the names
pub number_within : {X : Type 0} (xs : List X) (x : List ℕ) (ns : List (List ℕ)) (i : ℕ) → index_of x ns ≡ Some i → length xs ≡ length ns → i < length xs
number_within xs x ns i e h = omega (arith, (index_of-some x ns i e).1)
