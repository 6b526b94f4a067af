-- Look-ups among keys, as look-ups among their bytes.
use Rattle.std.proofs.Common.{◌≡◌, ℕ, ◌+◌, Bool, true, false, not, cond, ltb, suc, List, [], ◌∷◌, map, length, Option, Some, None, refl, sym, ap, ◌∙◌, arith}
use mathlib.Core.Bool.{◌||◌}
use Rattle.std.specs.Option.{option_map}
use Rattle.std.specs.List.{position, position_or_len, list_any}
use Rattle.std.specs.Str.{bytes_eq}
use Rattle.std.proofs.lemmas.Bool.Decides.{nat_tests}
use Rattle.std.proofs.lemmas.Bool.{false≢true}
use Rattle.m_names.specs.Names.{index_of, has}
use Rattle.m_names.proofs.NameLemmas.{index_of-none}

-- the index in a list with one more name before it
shifted : (b c : Bool) (i : ℕ) → b ≡ c → cond b (Some (1 + i)) None ≡ option_map (λ j. j + 1) (cond c (Some i) None)
shifted true true i e = ap Some (omega arith)
shifted false false i e = refl
shifted true false i e = cc
shifted false true i e = cc

positive : (n : ℕ) → ltb 0 (suc n) ≡ true
positive n = grind (arith, nat_tests)

pub position-cons : {X : Type 0} (p : X → Bool) (x : X) (xs : List X) → position p (x ∷ xs) ≡ cond (p x) (Some 0) (option_map (λ i. i + 1) (position p xs))
position-cons p x xs = elim (p x) as (λ b. cond (ltb (cond (not b) (1 + position_or_len p xs) 0) (length (x ∷ xs)))
    (Some (cond (not b) (1 + position_or_len p xs) 0)) None ≡ cond b (Some 0) (option_map (λ i. i + 1) (position p xs))) [
      | true ↦ ap (λ b. cond b (Some 0) None) (positive (length xs))
      | false ↦ shifted _ _ (position_or_len p xs) (grind (arith, nat_tests))
    ]

pub has-keys : {K : Type 0} (bytes : K → List ℕ) (name : List ℕ) (ks : List K) → list_any (λ k. bytes_eq name (bytes k)) ks ≡ has name (map bytes ks)
has-keys bytes name [] = refl
has-keys bytes name (k ∷ ks) = ap (λ b. bytes_eq name (bytes k) || b) (has-keys bytes name ks)

pub index_of-keys : {K : Type 0} (bytes : K → List ℕ) (name : List ℕ) (ks : List K) → position (λ k. bytes_eq name (bytes k)) ks ≡ index_of name (map bytes ks)
index_of-keys bytes name [] = refl
index_of-keys bytes name (k ∷ ks) = position-cons (λ x. bytes_eq name (bytes x)) k ks
    ∙ ap (λ o. cond (bytes_eq name (bytes k)) (Some 0) (option_map (λ i. i + 1) o)) (index_of-keys bytes name ks)

-- an index that exists is this one
only_place : (b : Bool) (n : ℕ) (o : Option ℕ) → cond b (Some n) None ≡ o → (o ≡ None → ⊥) → o ≡ Some n
only_place true n o e f = sym e
only_place false n o e f = absurd (f (sym e))

-- the number of a known name
pub index_of-known : {K : Type 0} (bytes : K → List ℕ) (name : List ℕ) (ks : List K) → has name (map bytes ks) ≡ true
    → index_of name (map bytes ks) ≡ Some (position_or_len (λ k. bytes_eq name (bytes k)) ks)
index_of-known bytes name ks h =
    only_place _ _ (index_of name (map bytes ks)) (index_of-keys bytes name ks) (λ e. false≢true (sym (index_of-none name (map bytes ks) e) ∙ h))
