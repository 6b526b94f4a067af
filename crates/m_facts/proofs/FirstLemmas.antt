-- The first output with each name, output by output.
use Rattle.std.proofs.Common.{◌≡◌, ℕ, ◌+◌, ◌<◌, Bool, true, false, cond, List, [], ◌∷◌, ◌++◌, length, get_or, take, Option, Some, None, slice_get, refl, ap}
use Rattle.std.proofs.Common.{sym, ◌∙◌}
use Rattle.std.specs.Prelude.{◌||◌, not}
use Rattle.std.specs.Option.{option_map_or, option_and_then}
use Rattle.std.specs.Str.{bytes_eq}
use Rattle.std.proofs.lemmas.List.{take_more}
use Rattle.m_names.specs.Names.{has}
use Rattle.m_names.proofs.NameLemmas.{same, has-append}
use Rattle.observables.specs.declared.face.FaceOutput.{FaceOutput}
use Rattle.observables.specs.declared.face.FaceOutput.TheVariants.{Named, Noted}
use Rattle.observables.specs.Outputs.{names_of}
use Rattle.m_facts.specs.Found.{name_of, is_first}
use Rattle.m_facts.specs.inner.Parts.{with_output}

-- both sets have the same names
abbrev pub SameNames : List (List ℕ) → List (List ℕ) → Type 0
SameNames names others = (x : List ℕ) → has x names ≡ has x others

names-append : (xs ys : List FaceOutput) → names_of (xs ++ ys) ≡ names_of xs ++ names_of ys
names-append [] ys = refl
names-append (Named name ∷ xs) ys = ap (λ names. name ∷ names) (names-append xs ys)
names-append (Noted number ∷ xs) ys = names-append xs ys

-- one output more
pub names-next : (outputs : List FaceOutput) (k : ℕ) (output : FaceOutput) (names : List (List ℕ)) → k < length outputs → output ≡ get_or outputs k output
    → SameNames names (names_of (take k outputs))
    → SameNames (with_output output names) (names_of (take (k + 1) outputs))
names-next outputs k output names low is agreed = λ x.
    by output x
    ∙ ap (λ b. b || has x (names_of (output ∷ []))) (agreed x)
    ∙ sym (has-append x (names_of (take k outputs)) (names_of (output ∷ [])))
    ∙ ap (has x) (sym (names-append (take k outputs) (output ∷ [])) ∙ ap (λ o. names_of (take k outputs ++ o ∷ [])) is
    ∙ ap names_of (sym (take_more outputs k output low)))
  where
    none : (b : Bool) → b ≡ (b || false)
    none true = refl
    none false = refl

    there : (x name : List ℕ) (b : Bool) → has name names ≡ b → has x (cond (not b) (names ++ name ∷ []) names) ≡ (has x names || has x (name ∷ []))
    there x name false e = has-append x names (name ∷ [])
    there x name true e = known (bytes_eq x name) refl
      where
        known : (b : Bool) → bytes_eq x name ≡ b → has x names ≡ (has x names || (b || false))
        known false d = none (has x names)
        known true d = let is : x ≡ name = same x name d in rw (ap (λ y. has y names) is ∙ e) refl

    by : (output : FaceOutput) (x : List ℕ) → has x (with_output output names) ≡ (has x names || has x (names_of (output ∷ [])))
    by (Named name) x = there x name (has name names) refl
    by (Noted number) x = none (has x names)

-- an output's name is new if no earlier output has it
pub first-is : (outputs : List FaceOutput) (k : ℕ) (output : FaceOutput) (names : List (List ℕ)) (fresh : Bool) → slice_get outputs k ≡ Some output
    → SameNames names (names_of (take k outputs))
    → fresh ≡ option_map_or (λ name. not (has name names)) (name_of output) false → fresh ≡ is_first outputs k
first-is outputs k output names fresh is agreed e =
    e ∙ by (name_of output) ∙ ap (λ o. option_map_or (λ name. not (has name (names_of (take k outputs)))) (option_and_then name_of o) false) (sym is)
  where
    by : (found : Option (List ℕ)) → option_map_or (λ name. not (has name names)) found false ≡ option_map_or
        (λ name. not (has name (names_of (take k outputs)))) found false
    by None = refl
    by (Some name) = ap not (agreed name)
