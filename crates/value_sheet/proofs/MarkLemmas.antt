-- Marks, one row after another.
use Rattle.std.proofs.Common.{◌≡◌, ◌≢◌, ℕ, zero, suc, ◌+◌, ◌<◌, Bool, true, false, ◌||◌, eqb, List, [], ◌∷◌, ◌++◌, length, get_or, set, take, refl, sym, ◌∙◌}
use Rattle.std.proofs.Common.{ap, ⊎_elim, arith}
use Rattle.std.proofs.lemmas.Bool.{cases_eq, eq-eqb, ne_eqb, or_right}
use Rattle.std.proofs.lemmas.List.{get_or-set_same, get_or-set_other, take_more}
use Rattle.dirty_set.specs.Members.{is_member}
use Rattle.value_sheet.specs.inner.Readers.{has}

has_append : (xs ys : List ℕ) (k : ℕ) → has (xs ++ ys) k ≡ (has xs k || has ys k)
has_append [] ys k = refl
has_append (x ∷ xs) ys k = ap (λ b. eqb x k || b) (has_append xs ys k) ∙ assoc (eqb x k) (has xs k) (has ys k)
  where
    assoc : (a b c : Bool) → (a || (b || c)) ≡ ((a || b) || c)
    assoc true b c = refl
    assoc false b c = refl

pub has_at : (xs : List ℕ) (i : ℕ) → i < length xs → has xs (get_or xs i 0) ≡ true
has_at [] i h = absurd (omega arith)
has_at (x ∷ xs) zero h = ap (λ b. b || has xs x) (eq-eqb x x refl)
has_at (x ∷ xs) (suc i) h = or_right (eqb x (get_or xs i 0)) (has xs (get_or xs i 0)) (has_at xs i (omega arith))

-- one mark more
member_set : (marks : List Bool) (t k : ℕ) → t < length marks → is_member (set marks t true) k ≡ (is_member marks k || eqb t k)
member_set marks t k h =
    ⊎_elim
    (λ (is : t ≡ k). ap (is_member (set marks t true)) (sym is) ∙ get_or-set_same marks t true false h
    ∙ sym (or_right (is_member marks k) (eqb t k) (eq-eqb t k is)))
    (λ (ne : t ≢ k).
    let other : k ≢ t = λ is. ne (sym is) in
    get_or-set_other marks t k true false other ∙ sym (ap (λ b. is_member marks k || b) (ne_eqb t k ne) ∙ alone (is_member marks k)))
    (cases_eq t k)
  where
    alone : (b : Bool) → (b || false) ≡ b
    alone true = refl
    alone false = refl

pub mark_more : (first marks : List Bool) (row : List ℕ) (i : ℕ) → i < length row → get_or row i 0 < length marks
    → ((k : ℕ) → is_member marks k ≡ (is_member first k || has (take i row) k))
    → (k : ℕ) → is_member (set marks (get_or row i 0) true) k ≡ (is_member first k || has (take (i + 1) row) k)
mark_more first marks row i lt within before k =
    let t = get_or row i 0 in
    member_set marks t k within ∙ ap (λ b. b || eqb t k) (before k) ∙ regroup (is_member first k) (has (take i row) k) (eqb t k)
    ∙ ap (λ b. is_member first k || b) (sym (ap (λ xs. has xs k) (take_more row i 0 lt) ∙ has_append (take i row) (t ∷ []) k))
  where
    regroup : (a b c : Bool) → ((a || b) || c) ≡ (a || (b || (c || false)))
    regroup true b c = refl
    regroup false true c = refl
    regroup false false true = refl
    regroup false false false = refl
