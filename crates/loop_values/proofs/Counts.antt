-- Saturating counts.
use Rattle.std.proofs.Common.{◌≡◌, ℕ, zero, suc, ◌+◌, ◌*◌, ◌<◌, ◌≤◌, min, List, [], ◌∷◌, ◌++◌, length, length-append, drop, get_or, arith, refl, sym, ap, ◌∙◌}
use Rattle.std.proofs.Common.{⊎_elim}
use Rattle.std.proofs.lemmas.Bool.{cases_lt}
use Rattle.std.proofs.Math.Seq.{drop-cons}
use Rattle.std.specs.List.{flat_map}
use Rattle.m_ast.specs.declared.header.Header.{Header}
use Rattle.m_ast.specs.declared.header.Index.{Index}
use Rattle.loop_values.specs.Values.{index_values}
use Rattle.loop_values.specs.Headers.{instances, instance_count, all_indexes}
use Rattle.loop_values.specs.Letters.{Letters, bind}

within : (a b m : ℕ) → a ≤ m → min (min a m * b) m ≡ min (a * b) m
within a b m h = let e : min a m ≡ a = omega arith in rw e

beyond : (a b m : ℕ) → m < a → min (min a m * b) m ≡ min (a * b) m
beyond a zero m h = omega arith
beyond a (suc b) m h = let e : min a m ≡ m = omega arith in rw e (omega arith)

pub min_times : (a b m : ℕ) → min (min a m * b) m ≡ min (a * b) m
min_times a b m = ⊎_elim (beyond a b m) (within a b m) (cases_lt m a)

left : (a b d : ℕ) → (a * b) * d ≡ b * (a * d)
left a b d = omega arith

right : (a b d : ℕ) → (a * b) * d ≡ a * (b * d)
right a b d = omega arith

again : (c n r m : ℕ) → min (min (min n m) m * (c * r)) m ≡ min (c * (n * r)) m
again c n r m =
    let e : min (min n m) m ≡ min n m = omega arith in
    ap (λ x. min (x * (c * r)) m) e ∙ min_times n (c * r) m ∙ ap (λ x. min x m) (sym (left c n r) ∙ right c n r)

-- one more factor, with saturation
pub times_more : (c n r m next all : ℕ) → min (c * (n * r)) m ≡ all → next ≡ min (c * min n m) m → min (next * r) m ≡ all
times_more c n r m next all inv e =
    ap (λ x. min (x * r) m) e
    ∙ min_times (c * min n m) r m
    ∙ ap (λ x. min x m) (left c (min n m) r)
    ∙ sym (min_times (min n m) (c * r) m)
    ∙ again c n r m
    ∙ inv

-- the remaining indexes
pub count_next : (indexes : List Index) (i : ℕ) (x : Index) → i < length indexes → x ≡ get_or indexes i x
    → instance_count (drop i indexes) ≡ length (index_values x) * instance_count (drop (i + 1) indexes)
count_next indexes i x l at = let one : suc i ≡ i + 1 = omega arith in ap instance_count (drop-cons indexes i x l ∙ (λ k. sym at k ∷ drop (one k) indexes))

regroup : (a b d : ℕ) → a * (b * d) ≡ (a * b) * d
regroup a b d = omega arith

pub count_append : (xs ys : List Index) → instance_count (xs ++ ys) ≡ instance_count xs * instance_count ys
count_append [] ys = omega arith
count_append (x ∷ xs) ys = ap (λ n. length (index_values x) * n) (count_append xs ys)
    ∙ regroup (length (index_values x)) (instance_count xs) (instance_count ys)

-- the instances of one more header
pub headers_next : (headers : List Header) (i : ℕ) (x : Header) (c next m all : ℕ) → i < length headers → x ≡ get_or headers i x
    → min (c * instance_count (all_indexes (drop i headers))) m ≡ all → next ≡ min (c * instance_count x.indexes) m
    → min (next * instance_count (all_indexes (drop (i + 1) headers))) m ≡ all
headers_next headers i x c next m all l at inv e =
    ap (λ n. min (n * instance_count (all_indexes (drop (i + 1) headers))) m) e
    ∙ min_times (c * instance_count x.indexes) (instance_count (all_indexes (drop (i + 1) headers))) m
    ∙ ap (λ n. min n m) (sym (regroup c (instance_count x.indexes) (instance_count (all_indexes (drop (i + 1) headers))))
    ∙ ap (λ n. c * n) (sym (count_append x.indexes (all_indexes (drop (i + 1) headers)))))
    ∙ ap (λ hs. min (c * instance_count (all_indexes hs)) m) (sym here)
    ∙ inv
  where
    here : drop i headers ≡ x ∷ drop (i + 1) headers
    here = let one : suc i ≡ i + 1 = omega arith in drop-cons headers i x l ∙ (λ k. sym at k ∷ drop (one k) headers)

same_lengths : {A B : Type 0} (g : A → List B) (vs : List A) (c : ℕ) → ((v : A) → length (g v) ≡ c) → length (flat_map g vs) ≡ length vs * c
same_lengths g [] c h = omega arith
same_lengths g (v ∷ vs) c h = length-append (g v) (flat_map g vs) ∙ (let here = h v in let rest = same_lengths g vs c h in omega arith)

-- the count is the number of instances
pub length_instances : (indexes : List Index) (letters : Letters) → length (instances indexes letters) ≡ instance_count indexes
length_instances [] letters = refl
length_instances (x ∷ xs) letters = same_lengths (λ value. instances xs (bind letters x.letter value)) (index_values x) (instance_count xs)
    (λ value. length_instances xs (bind letters x.letter value))
