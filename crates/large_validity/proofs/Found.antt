-- Each name of the rule base of `large N` resolves to its variable.
use Rattle.std.proofs.Common.{◌≡◌, ℕ, zero, suc, ◌+◌, ◌<◌, ◌≤◌, Bool, true, false, cond, List, [], ◌∷◌, ◌++◌, Option, Some, None, refl, ap, ◌∙◌, subst, add-one}
use Rattle.std.proofs.Common.{inl, inr, arith}
use Rattle.std.proofs.lemmas.Bool.{cases_lt}
use Rattle.std.specs.Str.{bytes_eq}
use Rattle.std.specs.Option.{option_map, option_and_then}
use Rattle.std.specs.Prelude.{slice_get}
use Rattle.m_places.specs.declared.place.Place.{Place}
use Rattle.m_names.specs.Names.{has, index_of}
use Rattle.m_names.proofs.NameLemmas.{or-false, itself}
use Rattle.m_symbols.specs.declared.variable.Variable.{Variable}
use Rattle.m_symbols.specs.Declarations.{names_of}
use Rattle.m_symbols.specs.Cells.{variable_named}
use Rattle.std.proofs.lemmas.List.{map-append}
use Rattle.large_validity.proofs.Names.{names, input_name, sum_name, new_input, new_sum}
use Rattle.large_validity.proofs.Variables.{variables, input_variable, sum_variable, declared}

-- the first variable of a name
abbrev pub find : List ℕ → List Variable → Option Variable
find name [] = None
find name (v ∷ vs) = cond (bytes_eq name v.item.name) (Some v) (find name vs)

next_get : {X : Type 0} (x : X) (xs : List X) (o : Option ℕ) → option_and_then (slice_get (x ∷ xs)) (option_map (λ i. i + 1) o) ≡ option_and_then (slice_get xs)
    o
next_get x xs None = refl
next_get x xs (Some i) = ap (slice_get (x ∷ xs)) (add-one i)

pub found : (name : List ℕ) (vs : List Variable) → option_and_then (slice_get vs) (index_of name (names_of vs)) ≡ find name vs
found name [] = refl
found name (v ∷ vs) = by (found name vs) (bytes_eq name v.item.name)
  where
    by : option_and_then (slice_get vs) (index_of name (names_of vs)) ≡ find name vs → (b : Bool)
        → option_and_then (slice_get (v ∷ vs)) (cond b (Some 0) (option_map (λ i. i + 1) (index_of name (names_of vs)))) ≡ cond b (Some v) (find name vs)
    by next true = refl
    by next false = next_get v vs (index_of name (names_of vs)) ∙ next

find-past : (name : List ℕ) (vs ws : List Variable) → has name (names_of vs) ≡ false → find name (vs ++ ws) ≡ find name ws
find-past name [] ws h = refl
find-past name (v ∷ vs) ws h =
    let k = or-false (bytes_eq name v.item.name) (has name (names_of vs)) h in
    ap (λ b. cond b (Some v) (find name (vs ++ ws))) k.0 ∙ find-past name vs ws k.1

find-there : (name : List ℕ) (vs ws : List Variable) (v : Variable) → find name vs ≡ Some v → find name (vs ++ ws) ≡ Some v
find-there name [] ws v h = cc
find-there name (w ∷ vs) ws v h = by (find-there name vs ws v) (bytes_eq name w.item.name) refl
  where
    by : (find name vs ≡ Some v → find name (vs ++ ws) ≡ Some v) → (b : Bool) → bytes_eq name w.item.name ≡ b → find name ((w ∷ vs) ++ ws) ≡ Some v
    by next true e = rw e (rw e at h)
    by next false e = rw e (next (rw e at h))

pub variable_names : (p : Place) (n : ℕ) → names_of (variables p n) ≡ names n
variable_names p zero = refl
variable_names p (suc k) = map-append (λ (v : Variable). v.item.name) (variables p k) _ ∙ ap (λ l. l ++ (input_name k ∷ sum_name k ∷ [])) (variable_names p k)

find_input : (p : Place) (n k : ℕ) → k < n → n ≤ 100000 → find (input_name k) (variables p n) ≡ Some (input_variable p k)
find_input p zero k l h = absurd (omega arith)
find_input p (suc m) k l h = elim (cases_lt k m) [
  | inl g ↦ find-there (input_name k) (variables p m) _ _ (find_input p m k g (omega arith))
  | inr g ↦
      let same : m ≡ k = omega arith in
      subst (λ x. find (input_name x) (variables p (suc m)) ≡ Some (input_variable p x)) same
      (find-past (input_name m) (variables p m) _ (ap (has (input_name m)) (variable_names p m) ∙ new_input m m (omega arith) (omega arith))
      ∙ ap (λ b. cond b (Some (input_variable p m)) (find (input_name m) (sum_variable p m ∷ []))) (itself (input_name m)))
]

find_sum : (p : Place) (n k : ℕ) → k < n → n ≤ 100000 → find (sum_name k) (variables p n) ≡ Some (sum_variable p k)
find_sum p zero k l h = absurd (omega arith)
find_sum p (suc m) k l h = elim (cases_lt k m) [
  | inl g ↦ find-there (sum_name k) (variables p m) _ _ (find_sum p m k g (omega arith))
  | inr g ↦
      let same : m ≡ k = omega arith in
      subst (λ x. find (sum_name x) (variables p (suc m)) ≡ Some (sum_variable p x)) same
      (find-past (sum_name m) (variables p m) _ (ap (has (sum_name m)) (variable_names p m) ∙ new_sum m m (omega arith) (omega arith))
      ∙ ap (λ b. cond b (Some (sum_variable p m)) None) (itself (sum_name m)))
]

pub input_found : (p : Place) (n k : ℕ) → k < n → n ≤ 100000 → variable_named (declared p n) (input_name k) ≡ Some (input_variable p k)
input_found p n k l h = found (input_name k) (variables p n) ∙ find_input p n k l h

pub sum_found : (p : Place) (n k : ℕ) → k < n → n ≤ 100000 → variable_named (declared p n) (sum_name k) ≡ Some (sum_variable p k)
sum_found p n k l h = found (sum_name k) (variables p n) ∙ find_sum p n k l h
