-- The parts of a list and their results, by induction over the parts.
use Rattle.std.proofs.Common.{◌≡◌, ℕ, zero, suc, ◌+◌, ◌*◌, ◌<◌, ◌≤◌, List, [], ◌∷◌, length, get_or, take, drop, Result, Ok, Err, Vec, refl, sym, ap, subst, ◌∙◌}
use Rattle.std.proofs.Common.{arith}
use Rattle.std.specs.declared.alloc.Global.{Global}
use Rattle.std.specs.List.{AllZip, range_with_len}
use Rattle.std.proofs.lemmas.List.{drop_all, drop-drop, length-take, length-drop}
use native.Mathlib.Nat.{add-mul, one-mul, zero-mul}
use Rattle.workers.specs.Parts.{AreOfParts, IsPart, behind, joined, part_at}

pub is_part : {X : Type 0} (items : List X) (size at : ℕ) → 0 < size → at < length items → IsPart items size at (part_at items size at)
is_part items size at some inside =
    let long = length-take size (drop at items) in
    let left = length-drop at items in
    record { value = refl; some = omega (arith, some, inside, long, left); within = omega (arith, inside, long, left) }

module _ {X U : Type 0} (gives : ℕ → List X → U → Type 0) (size : ℕ) (items : List X) where
  -- one more part
  a_part : (n : ℕ) (u : U) (made : List U) → n * size < length items → gives (n * size) (part_at items size (n * size)) u
      → AreOfParts gives size ((n + 1) * size) (drop ((n + 1) * size) items) made → AreOfParts gives size (n * size) (drop (n * size) items) (u ∷ made)
  a_part n u made inside gave rest =
      let next : (n + 1) * size ≡ n * size + size = omega (arith, add-mul n 1 size, one-mul size) in
      let left : drop ((n + 1) * size) items ≡ drop size (drop (n * size) items) = ap (λ k. drop k items) next ∙ sym (drop-drop size (n * size) items) in
      let some : 0 < length (drop (n * size) items) = let long = length-drop (n * size) items in omega (arith, inside, long) in (
        some,
        gave,
        subst (λ k. AreOfParts gives size k (drop size (drop (n * size) items)) made) next
            (subst (λ xs. AreOfParts gives size ((n + 1) * size) xs made) left rest),
      )

  -- the results of the parts from one part on
  parts_from : (n : ℕ) (made : List U) → ((k : ℕ) (d : U) → k < length made → gives ((n + k) * size) (part_at items size ((n + k) * size)) (get_or made k d))
      → ((k : ℕ) → k < length made → (n + k) * size < length items) → length items ≤ (n + length made) * size
      → AreOfParts gives size (n * size) (drop (n * size) items) made
  parts_from n [] each inside reach = let same : n + 0 ≡ n = omega arith in drop_all (n * size) items (subst (λ m. length items ≤ m * size) same reach)
  parts_from n (u ∷ made) each inside reach =
      let here : n + 0 ≡ n = omega arith in
      let long : n + length (u ∷ made) ≡ n + 1 + length made = omega arith in
      a_part n u made (subst (λ m. m * size < length items) here (inside 0 (omega arith)))
      (subst (λ m. gives (m * size) (part_at items size (m * size)) u) here (each 0 u (omega arith)))
      (parts_from (n + 1) made
      (λ k d h. let there : n + suc k ≡ n + 1 + k = omega arith in subst (λ m. gives (m * size) (part_at items size (m * size)) (get_or made k d)) there
      (each (suc k) d (omega (arith, h))))
      (λ k h. let there : n + suc k ≡ n + 1 + k = omega arith in subst (λ m. m * size < length items) there (inside (suc k) (omega (arith, h))))
      (subst (λ m. length items ≤ m * size) long reach))

  -- The results of all parts; `gives` is the caller's fact about each.
  pub of_parts : (made : List U) → ((n : ℕ) (d : U) → n < length made → gives (n * size) (part_at items size (n * size)) (get_or made n d))
      → ((n : ℕ) → n < length made → n * size < length items)
      → length items ≤ length made * size → AreOfParts gives size 0 items made
  of_parts made each inside reach =
      let plus : (k : ℕ) → k ≡ 0 + k = λ k. omega arith in
      subst (λ k. AreOfParts gives size k (drop k items) made) (zero-mul size)
      (parts_from 0 made (λ k d h. subst (λ m. gives (m * size) (part_at items size (m * size)) (get_or made k d)) (plus k) (each k d h))
      (λ k h. subst (λ m. m * size < length items) (plus k) (inside k h))
      (subst (λ m. length items ≤ m * size) (plus (length made)) reach))

-- results of calls on consecutive numbers
pub zipped_at : {U : Type 0} (R : ℕ → U → Type 0) (n count : ℕ) (made : List U) → AllZip R (range_with_len n count) made → (k : ℕ) (d : U) → k < length made
    → R (n + k) (get_or made k d)
zipped_at R n count [] all k d h = absurd (omega (arith, h))
zipped_at R n zero (u ∷ made) all k d h = absurd all
zipped_at R n (suc count) (u ∷ made) all zero d h = let same : n ≡ n + 0 = omega arith in subst (λ m. R m u) same all.0
zipped_at R n (suc count) (u ∷ made) all (suc k) d h =
    let same : n + 1 + k ≡ n + suc k = omega arith in subst (λ m. R m (get_or made k d)) same (zipped_at R (n + 1) count made all.1 k d (omega (arith, h)))

pub zipped_many : {U : Type 0} (R : ℕ → U → Type 0) (n count : ℕ) (made : List U) → AllZip R (range_with_len n count) made → length made ≡ count
zipped_many R n zero [] all = refl
zipped_many R n zero (u ∷ made) all = absurd all
zipped_many R n (suc count) [] all = absurd all
zipped_many R n (suc count) (u ∷ made) all = ap suc (zipped_many R (n + 1) count made all.1)

-- Induction over joined results, from the last part to the first: for the empty list, for a part
-- that fails, and for a part before the rest.
pub stated_of_parts : {X U E : Type 0} (gives : ℕ → List X → Result (Vec U Global) E → Type 0) (size : ℕ) (Says : ℕ → List X → Result (List U) E → Type 0)
    → ((at : ℕ) → Says at [] (Ok []))
    → ((at : ℕ) (items : List X) (fault : E) → 0 < length items → gives at (take size items) (Err fault) → Says at items (Err fault))
    → ((at : ℕ) (items : List X) (part : Vec U Global) (rest : Result (List U) E) → 0 < length items → gives at (take size items) (Ok part)
    → Says (at + size) (drop size items) rest
    → Says at items (behind part.items rest))
    → (at : ℕ) (items : List X) (parts : List (Result (Vec U Global) E)) → AreOfParts gives size at items parts → Says at items (joined parts)
stated_of_parts gives size Says none stops goes at items [] h = subst (λ xs. Says at xs (Ok [])) (sym h) (none at)
stated_of_parts gives size Says none stops goes at items (Err fault ∷ parts) h = stops at items fault h.0 h.1
stated_of_parts gives size Says none stops goes at items (Ok part ∷ parts) h =
    goes at items part (joined parts) h.0 h.1 (stated_of_parts gives size Says none stops goes (at + size) (drop size items) parts h.2)
