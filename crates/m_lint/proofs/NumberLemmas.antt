-- The numbers below a count that pass a test, in order.
use Rattle.std.proofs.Common.{◌≡◌, ℕ, zero, suc, ◌+◌, ◌<◌, Bool, true, false, cond, List, [], ◌∷◌, ◌++◌, map, Result, refl, ap, sym, subst, ◌∙◌, append_assoc}
use Rattle.std.proofs.Common.{append-nil, arith}
use Rattle.std.specs.Prelude.{filter, IfOk, OnOk}
use Rattle.std.specs.List.{range_with_len}
use Rattle.m_lint.specs.Findings.{numbers_with}
use Rattle.m_lint.specs.declared.finding.Finding.{Finding}

from-more : (test : ℕ → Bool) (first n last : ℕ) → first + n ≡ last → filter test (range_with_len first (suc n)) ≡ filter test (range_with_len first n)
    ++ cond (test last) (last ∷ []) []
from-more test first zero last e = let same : first ≡ last = omega (arith, e) in ap (λ k. cond (test k) (k ∷ []) []) same
from-more test first (suc n) last e =
    by (test first) (filter test (range_with_len (first + 1) (suc n))) (filter test (range_with_len (first + 1) n)) (cond (test last) (last ∷ []) [])
    (from-more test (first + 1) n last (omega (arith, e)))
  where
    by : (b : Bool) (whole front one : List ℕ) → whole ≡ front ++ one → cond b (first ∷ whole) whole ≡ cond b (first ∷ front) front ++ one
    by true whole front one h = ap (λ xs. first ∷ xs) h
    by false whole front one h = h

-- one more number
pub numbers-more : (test : ℕ → Bool) (n : ℕ) → numbers_with test (n + 1) ≡ numbers_with test n ++ cond (test n) (n ∷ []) []
numbers-more test n = let next : n + 1 ≡ suc n = omega arith in ap (numbers_with test) next ∙ from-more test 0 n n (omega arith)

-- a number is appended if it passes
pub numbers-next : (test : ℕ → Bool) (items more : List ℕ) (n : ℕ) (taken : Bool) → items ≡ numbers_with test n → taken ≡ test n
    → more ≡ items ++ cond taken (n ∷ []) [] → more ≡ numbers_with test (n + 1)
numbers-next test items more n taken h same e = e ∙ ap (λ xs. xs ++ cond taken (n ∷ []) []) h ∙ ap (λ b. numbers_with test n ++ cond b (n ∷ []) []) same
    ∙ sym (numbers-more test n)

map-append : (K : ℕ → Finding) (xs ys : List ℕ) → map K (xs ++ ys) ≡ map K xs ++ map K ys
map-append K [] ys = refl
map-append K (x ∷ xs) ys = ap (λ rest. K x ∷ rest) (map-append K xs ys)

-- a finding is appended if its number passes
pub found-next : (K : ℕ → Finding) (test : ℕ → Bool) (old items more : List Finding) (n : ℕ) (found : Bool) → items ≡ old ++ map K (numbers_with test n)
    → found ≡ test n → more ≡ items ++ cond found (K n ∷ []) [] → more ≡ old ++ map K (numbers_with test (n + 1))
found-next K test old items more n found h same e = by found same e
  where
    by : (b : Bool) → b ≡ test n → more ≡ items ++ cond b (K n ∷ []) [] → more ≡ old ++ map K (numbers_with test (n + 1))
    by true is e =
        e ∙ ap (λ xs. xs ++ K n ∷ []) h ∙ append_assoc old (map K (numbers_with test n)) (K n ∷ [])
        ∙ ap (λ xs. old ++ xs) (sym (ap (map K) (numbers-more test n ∙ ap (λ b. numbers_with test n ++ cond b (n ∷ []) []) (sym is))
        ∙ map-append K (numbers_with test n) (n ∷ [])))
    by false is e =
        e ∙ append-nil items ∙ h
        ∙ ap (λ xs. old ++ map K xs) (sym (numbers-more test n ∙ ap (λ b. numbers_with test n ++ cond b (n ∷ []) []) (sym is)
        ∙ append-nil (numbers_with test n)))

-- the same numbers pass two tests that agree
from-same : (f g : ℕ → Bool) (first n : ℕ) → ((k : ℕ) → k < first + n → f k ≡ g k) → filter f (range_with_len first n) ≡ filter g (range_with_len first n)
from-same f g first zero h = refl
from-same f g first (suc n) h =
    ap (λ b. cond b (first ∷ filter f (range_with_len (first + 1) n)) (filter f (range_with_len (first + 1) n))) (h first (omega arith))
    ∙ ap (λ xs. cond (g first) (first ∷ xs) xs) (from-same f g (first + 1) n (λ k l. h k (omega (arith, l))))

pub numbers-same : (f g : ℕ → Bool) (n : ℕ) → ((k : ℕ) → k < n → f k ≡ g k) → numbers_with f n ≡ numbers_with g n
numbers-same f g n h = from-same f g 0 n (λ k l. h k (omega (arith, l)))

pub numbers-found : {R E : Type 0} (result : Result R E) (items : R → List ℕ) (f g : ℕ → Bool) (n : ℕ) → ((k : ℕ) → k < n → f k ≡ g k)
    → IfOk result (λ r. items r ≡ numbers_with f n) → IfOk result (λ r. items r ≡ numbers_with g n)
numbers-found result items f g n same h = subst (λ numbers. IfOk result (λ r. items r ≡ numbers)) (numbers-same f g n same) h

-- so the findings are the same
pub found-same : {R E : Type 0} (result : Result R E) (K : ℕ → Finding) (old new : List Finding) (f g : ℕ → Bool) (n m : ℕ) → n ≡ m
    → ((k : ℕ) → k < n → f k ≡ g k)
    → OnOk result (new ≡ old ++ map K (numbers_with f n)) → OnOk result (new ≡ old ++ map K (numbers_with g m))
found-same result K old new f g n m same h found = subst (λ numbers. OnOk result (new ≡ old ++ map K numbers)) (numbers-same f g n h ∙ ap (numbers_with g) same)
    found
