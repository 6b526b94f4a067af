-- The values of pairs.
use Rattle.std.proofs.Common.{◌≡◌, ℕ, ℤ, ◌+◌, ◌-◌, ◌<◌, ◌≤◌, drop, subst, zero, suc, eqb, List, [], ◌∷◌, length, get_or, set, replicate, zero-add, sym, ap, ◌∙◌}
use Rattle.std.proofs.Common.{inl, inr, arith, ◌⊎◌}
use Rattle.std.specs.List.{AllByRecursion, range_with_len}
use Rattle.std.proofs.lemmas.Bool.{eq-eqb, ne_eqb, cases_eq, cond-true, cond-false}
use Rattle.std.proofs.lemmas.List.{same_lists, drop_more, length-map, length-set, length-replicate, get_or-map, get_or-replicate, get_or-set_same}
use Rattle.std.proofs.lemmas.List.{get_or-set_other}
use Rattle.std.proofs.lemmas.List.FromFn.{length-range_with_len, get_or-range_with_len}
use Rattle.m_fixed.specs.declared.amount.Value.{Value}
use Rattle.m_fixed.specs.declared.amount.Value.TheVariants.{Undef, Num}
use Rattle.household.specs.Household.{inputs_of, value_at, values_of}

pub length-values_of : (pairs : List (ℕ × ℤ)) (n : ℕ) → length (values_of pairs n) ≡ n
length-values_of pairs n = length-map (range_with_len 0 n) (value_at pairs) ∙ length-range_with_len 0 n

-- each value by number
get_or-values_of : (pairs : List (ℕ × ℤ)) (n k : ℕ) (d : Value) → k < n → get_or (values_of pairs n) k d ≡ value_at pairs k
get_or-values_of pairs n k d l =
    get_or-map (value_at pairs) (range_with_len 0 n) k 0 d (omega (arith, length-range_with_len 0 n))
    ∙ ap (value_at pairs) (get_or-range_with_len 0 n k 0 l ∙ zero-add k)

-- no pairs give no amounts
pub values_of-none : (n : ℕ) → replicate n Undef ≡ values_of [] n
values_of-none n = same_lists (replicate n Undef) (values_of [] n) (length-replicate n Undef ∙ sym (length-values_of [] n)) (λ k d l.
    let within : k < n = omega (arith, length-replicate n Undef) in
    get_or-replicate n k Undef d within ∙ sym (get_or-values_of [] n k d within))

value_set : (pairs : List (ℕ × ℤ)) (pair : ℕ × ℤ) (n k : ℕ) (d : Value) → pair.0 < n → k < n → (k ≡ pair.0) ⊎ (k ≡ pair.0 → ⊥)
    → get_or (set (values_of pairs n) pair.0 (Num pair.1)) k d ≡ value_at (pair ∷ pairs) k
value_set pairs pair n k d within l (inl same) =
    ap (λ (j : ℕ). get_or (set (values_of pairs n) pair.0 (Num pair.1)) j d) same
    ∙ get_or-set_same (values_of pairs n) pair.0 (Num pair.1) d (omega (arith, length-values_of pairs n))
    ∙ sym (cond-true (eqb pair.0 k) (Num pair.1) (value_at pairs k) (eq-eqb pair.0 k (sym same)))
value_set pairs pair n k d within l (inr other) =
    get_or-set_other (values_of pairs n) pair.0 k (Num pair.1) d other
    ∙ get_or-values_of pairs n k d l
    ∙ sym (cond-false (eqb pair.0 k) (Num pair.1) (value_at pairs k) (ne_eqb pair.0 k (λ e. other (sym e))))

-- one more pair, put first, gives its input its amount
pub values_of-more : (pairs : List (ℕ × ℤ)) (pair : ℕ × ℤ) (n : ℕ) → pair.0 < n → set (values_of pairs n) pair.0 (Num pair.1) ≡ values_of (pair ∷ pairs) n
values_of-more pairs pair n within =
    let same_length : length (set (values_of pairs n) pair.0 (Num pair.1)) ≡ n = length-set (values_of pairs n) pair.0 (Num pair.1)
    ∙ length-values_of pairs n in
    same_lists _ (values_of (pair ∷ pairs) n) (same_length ∙ sym (length-values_of (pair ∷ pairs) n)) (λ k d l.
    let l' : k < n = omega arith in
    value_set pairs pair n k d within l' (cases_eq k pair.0) ∙ sym (get_or-values_of (pair ∷ pairs) n k d l'))

-- the input of each pair is in range
pub input_in_range : (n : ℕ) (pairs : List (ℕ × ℤ)) (k : ℕ) (d : ℕ × ℤ) → AllByRecursion (λ input. input < n) (inputs_of pairs) → k < length pairs
    → (get_or pairs k d).0 < n
input_in_range n [] k d h l = absurd (omega arith)
input_in_range n (pair ∷ pairs) zero d h l = h.0
input_in_range n (pair ∷ pairs) (suc k) d h l = input_in_range n pairs k d h.1 (omega arith)

-- the next pair, from the last to the first, gives its input its amount
pub values_of-next : (pairs : List (ℕ × ℤ)) (values : List Value) (left : ℕ) (pair : ℕ × ℤ) (n : ℕ) → AllByRecursion (λ input. input < n) (inputs_of pairs)
    → 0 < left → left ≤ length pairs
    → pair ≡ get_or pairs (left - 1) pair → values ≡ values_of (drop left pairs) n
    → (pair.0 < n) × (set values pair.0 (Num pair.1) ≡ values_of (drop (left - 1) pairs) n)
values_of-next pairs values left pair n known some within read filled =
    let at = left - 1 in
    let next : at + 1 ≡ left = omega arith in
    let at_within : at < length pairs = omega arith in
    let in_range : pair.0 < n = subst (λ (p : ℕ × ℤ). p.0 < n) (sym read) (input_in_range n pairs at pair known at_within) in
    let cut : drop at pairs ≡ pair ∷ drop left pairs = drop_more pairs at pair at_within ∙ (λ i. sym read i ∷ drop (next i) pairs) in
    (in_range, ap (λ vs. set vs pair.0 (Num pair.1)) filled ∙ values_of-more (drop left pairs) pair n in_range ∙ ap (λ ps. values_of ps n) (sym cut))
