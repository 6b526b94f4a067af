-- The bound letters as pairs give each word its instance.
use Rattle.std.proofs.Common.{◌≡◌, ℕ, zero, suc, ◌+◌, ◌<◌, ◌≤◌, List, [], ◌∷◌, ◌++◌, cond, drop, length, get_or, Option, None, Some, refl, sym, ap, ◌∙◌, arith}
use Rattle.std.proofs.Math.Seq.{drop-cons}
use Rattle.std.proofs.lemmas.List.{append-nil, drop_all}
use Rattle.std.specs.Prelude.{unwrap_or}
use Rattle.std.proofs.lemmas.Bool.{eq-eqb, ne_eqb}
use Rattle.m_ast.specs.PlainNames.{paired, byte_spelled, spelled}
use Rattle.loop_values.specs.Letters.{Letters, byte_replaced, replaced}
use Rattle.loop_values.specs.inner.Bound.{bound, bound_from}

-- a letter before the first of the bindings is in no pair
paired_before : (n byte : ℕ) (letters : Letters) → byte < n → paired (bound_from n letters) byte ≡ None
paired_before n byte [] l = refl
paired_before n byte (None ∷ letters) l = paired_before (n + 1) byte letters (omega arith)
paired_before n byte (Some v ∷ letters) l =
    ap (λ b. cond b (Some v) (paired (bound_from (n + 1) letters) byte)) (ne_eqb n byte (λ e. omega (arith, e, l)))
    ∙ paired_before (n + 1) byte letters (omega arith)

-- the value in the pairs is that of the binding
paired_at : (n k : ℕ) (letters : Letters) → paired (bound_from n letters) (n + k) ≡ get_or letters k None
paired_at n k [] = refl
paired_at n zero (None ∷ letters) = paired_before (n + 1) (n + 0) letters (omega arith)
paired_at n zero (Some v ∷ letters) = ap (λ b. cond b (Some v) (paired (bound_from (n + 1) letters) (n + 0))) (eq-eqb n (n + 0) (omega arith))
paired_at n (suc k) (None ∷ letters) =
    let next : n + suc k ≡ n + 1 + k = omega arith in ap (paired (bound_from (n + 1) letters)) next ∙ paired_at (n + 1) k letters
paired_at n (suc k) (Some v ∷ letters) =
    let next : n + suc k ≡ n + 1 + k = omega arith in
    ap (λ b. cond b (Some v) (paired (bound_from (n + 1) letters) (n + suc k))) (ne_eqb n (n + suc k) (λ e. omega (arith, e)))
    ∙ ap (paired (bound_from (n + 1) letters)) next ∙ paired_at (n + 1) k letters

byte_same : (letters : Letters) (byte : ℕ) → byte_spelled (bound_from 0 letters) byte ≡ byte_replaced letters byte
byte_same letters byte =
    let first : byte ≡ 0 + byte = omega arith in
    ap (λ o. unwrap_or o (byte ∷ [])) (ap (paired (bound_from 0 letters)) first ∙ paired_at 0 byte letters)

pub bound_spelled : (letters : Letters) (word : List ℕ) → spelled (bound_from 0 letters) word ≡ replaced letters word
bound_spelled letters [] = refl
bound_spelled letters (byte ∷ word) = λ i. byte_same letters byte i ++ bound_spelled letters word i

-- the elements from i on are the one at i and those after it
drop_next : {A : Type 0} (xs : List A) (i : ℕ) (x : A) → i < length xs → x ≡ get_or xs i x → drop i xs ≡ x ∷ drop (i + 1) xs
drop_next xs i x h e = let one : suc i ≡ i + 1 = omega arith in drop-cons xs i x h ∙ (λ k. sym e k ∷ drop (one k) xs)

-- one more binding
pub bound_next : (letters : Letters) (n : ℕ) (x : Option (List ℕ)) → n < length letters → x ≡ get_or letters n x
    → bound_from n (drop n letters) ≡ bound n x ++ bound_from (n + 1) (drop (n + 1) letters)
bound_next letters n x l e = ap (bound_from n) (drop_next letters n x l e)

-- one more byte that isn't bound
pub free_next : (letters : Letters) (word : List ℕ) (i x : ℕ) → i < length word → x ≡ get_or word i x → get_or letters x None ≡ None
    → replaced letters (drop (i + 1) word) ≡ drop (i + 1) word
    → replaced letters (drop i word) ≡ drop i word
free_next letters word i x l e free rest =
    let split = drop_next word i x l e in
    ap (replaced letters) split ∙ (λ k. unwrap_or (free k) (x ∷ []) ++ rest k) ∙ sym split

-- all letters were looked at
pub all_bound : (letters : Letters) (values : List (ℕ × List ℕ)) (n : ℕ) → length letters ≤ n → values ++ bound_from n (drop n letters) ≡ bound_from 0 letters
    → (word : List ℕ) → spelled values word ≡ replaced letters word
all_bound letters values n l e word =
    let none : drop n letters ≡ [] = drop_all n letters l in
    let whole : values ≡ bound_from 0 letters = sym (append-nil values) ∙ ap (λ ls. values ++ bound_from n ls) (sym none) ∙ e in
    ap (λ v. spelled v word) whole ∙ bound_spelled letters word
