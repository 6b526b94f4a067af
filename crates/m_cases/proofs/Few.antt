-- Distinct numbers below a count are at most as many as the count.
use Rattle.std.proofs.Common.{◌≡◌, ◌≢◌, ℕ, zero, suc, ◌+◌, ◌<◌, ◌≤◌, Bool, true, false, eqb, arith, List, [], ◌∷◌, length, refl, ap, ◌∙◌, subst}
use mathlib.Core.Bool.{◌||◌}
use Rattle.std.specs.List.{AllByRecursion}
use Rattle.std.proofs.lemmas.Bool.{eqb-true, eqb-false, ne_eqb}
use Rattle.m_names.proofs.NameLemmas.{cases}
use Rattle.household.specs.Household.{AreDifferent, is_input_among}

abbrev one : Bool → ℕ
one true = 1
one false = 0

-- how many numbers below a count are in this list
abbrev among_below : ℕ → List ℕ → ℕ
among_below zero xs = 0
among_below (suc n) xs = among_below n xs + one (is_input_among n xs)

one_at_most : (b : Bool) → one b ≤ 1
one_at_most true = omega arith
one_at_most false = omega arith

below_at_most : (n : ℕ) (xs : List ℕ) → among_below n xs ≤ n
below_at_most zero xs = omega arith
below_at_most (suc n) xs = let more = below_at_most n xs in let last = one_at_most (is_input_among n xs) in omega (arith, more, last)

none_below : (n : ℕ) → among_below n [] ≡ 0
none_below zero = refl
none_below (suc n) = let more = none_below n in omega (arith, more)

-- a number that isn't below the count is irrelevant
above : (n x : ℕ) (xs : List ℕ) → n ≤ x → among_below n (x ∷ xs) ≡ among_below n xs
above zero x xs h = refl
above (suc n) x xs h =
    let more = above n x xs (omega (arith, h)) in
    let other : eqb x n ≡ false = ne_eqb x n (λ e. let l = h in absurd (omega (arith, l, e))) in
    let same : one (is_input_among n (x ∷ xs)) ≡ one (is_input_among n xs) = ap (λ b. one (b || is_input_among n xs)) other in
    omega (arith, more, same)

-- a new number below the count is one more
new_below : (n x : ℕ) (xs : List ℕ) → x < n → is_input_among x xs ≡ false → among_below n (x ∷ xs) ≡ among_below n xs + 1
new_below zero x xs h e = absurd (omega (arith, h))
new_below (suc n) x xs h e = cases (eqb x n)
    (λ (t : eqb x n ≡ true).
    let is : x ≡ n = eqb-true x n t in
    let more = above n x xs (omega (arith, is)) in
    let now : one (is_input_among n (x ∷ xs)) ≡ 1 = ap (λ b. one (b || is_input_among n xs)) t in
    let before : one (is_input_among n xs) ≡ 0 = ap one (subst (λ k. is_input_among k xs ≡ false) is e) in
    omega (arith, more, now, before))
    (λ (f : eqb x n ≡ false).
    let more = new_below n x xs (let l = h in let g = eqb-false x n f in by x n l g) e in
    let same : one (is_input_among n (x ∷ xs)) ≡ one (is_input_among n xs) = ap (λ b. one (b || is_input_among n xs)) f in
    omega (arith, more, same))
  where
    by : (x n : ℕ) → x < suc n → (x ≡ n → ⊥) → x < n
    by x n l g = omega (arith, l, g)

-- a number different from all others is not among them
not_among : (x : ℕ) (xs : List ℕ) → AllByRecursion (λ other. other ≢ x) xs → is_input_among x xs ≡ false
not_among x [] h = refl
not_among x (y ∷ xs) h = ap (λ b. b || is_input_among x xs) (ne_eqb y x h.0) ∙ not_among x xs h.1

counted : (n : ℕ) (xs : List ℕ) → AreDifferent xs → AllByRecursion (λ x. x < n) xs → among_below n xs ≡ length xs
counted n [] d b = none_below n
counted n (x ∷ xs) d b = let more = counted n xs d.1 b.1 in let new = new_below n x xs b.0 (not_among x xs d.0) in omega (arith, more, new)

pub few : (n : ℕ) (xs : List ℕ) → AreDifferent xs → AllByRecursion (λ x. x < n) xs → length xs ≤ n
few n xs d b = let all = counted n xs d b in let most = below_at_most n xs in omega (arith, all, most)
