-- Inputs as separate lists of codes and types.
use Rattle.std.proofs.Common.{◌≡◌, ℕ, ◌<◌, ◌≤◌, zero, suc, List, [], ◌∷◌, length, get_or, Some, None, refl, sym, ap, ◌∙◌, arith}
use Rattle.std.specs.Prelude.{map, slice_get}
use Rattle.std.proofs.lemmas.Option.{slice_get-get_or, slice_get_past}
use Rattle.observables.specs.declared.inputs.Coded.{Coded}
use Rattle.observables.specs.declared.inputs.InputType.{InputType}
use Rattle.observables.specs.declared.inputs.InputType.TheVariants.{Any}
use Rattle.observables.specs.Inputs.{codes_of}
use Rattle.household.specs.Household.{input_type}
use Rattle.household.specs.inner.Kept.{inputs_kept}

pub codes_kept : (codes : List (List ℕ)) (kinds : List InputType) → length kinds ≡ length codes → codes_of (inputs_kept codes kinds) ≡ codes
codes_kept [] kinds h = refl
codes_kept (code ∷ codes) [] h = absurd (omega arith)
codes_kept (code ∷ codes) (kind ∷ kinds) h = ap (λ (cs : List (List ℕ)). code ∷ cs) (codes_kept codes kinds (omega arith))

pub length_kept : (codes : List (List ℕ)) (kinds : List InputType) → length kinds ≡ length codes → length (inputs_kept codes kinds) ≡ length codes
length_kept [] kinds h = refl
length_kept (code ∷ codes) [] h = absurd (omega arith)
length_kept (code ∷ codes) (kind ∷ kinds) h = ap suc (length_kept codes kinds (omega arith))

type_kept : (codes : List (List ℕ)) (kinds : List InputType) (number : ℕ) (kind : InputType) → length kinds ≡ length codes → slice_get kinds number ≡ Some kind
    → input_type (inputs_kept codes kinds) number ≡ kind
type_kept codes [] number kind h there = absurd (cc there)
type_kept [] (k ∷ kinds) number kind h there = absurd (omega arith)
type_kept (code ∷ codes) (k ∷ kinds) zero kind h there = cc there
type_kept (code ∷ codes) (k ∷ kinds) (suc number) kind h there = type_kept codes kinds number kind (omega arith) there

none_kept : (codes : List (List ℕ)) (kinds : List InputType) (number : ℕ) → slice_get kinds number ≡ None → input_type (inputs_kept codes kinds) number ≡ Any
none_kept [] kinds number none = refl
none_kept (code ∷ codes) [] number none = refl
none_kept (code ∷ codes) (k ∷ kinds) zero none = absurd (cc none)
none_kept (code ∷ codes) (k ∷ kinds) (suc number) none = none_kept codes kinds number none

-- the type for a number with or without an input, as the code looks it up
pub type_read : (codes : List (List ℕ)) (kinds read : List InputType) (number : ℕ) (kind : InputType) → length kinds ≡ length codes → read ≡ kinds
    → number < length read
    → kind ≡ get_or read number kind → input_type (inputs_kept codes kinds) number ≡ kind
type_read codes kinds read number kind h same within is =
    type_kept codes kinds number kind h (ap (λ l. slice_get l number) (sym same) ∙ slice_get-get_or read number kind within ∙ ap Some (sym is))

pub none_read : (codes : List (List ℕ)) (kinds read : List InputType) (number : ℕ) → read ≡ kinds → length read ≤ number
    → input_type (inputs_kept codes kinds) number ≡ Any
none_read codes kinds read number same past = none_kept codes kinds number (ap (λ l. slice_get l number) (sym same) ∙ slice_get_past read number past)

-- the inputs are recovered from their codes and types
pub kept_whole : (inputs : List Coded) → inputs_kept (codes_of inputs) (map (λ (input : Coded). input.kind) inputs) ≡ inputs
kept_whole [] = refl
kept_whole (input ∷ inputs) = ap (λ (is : List Coded). input ∷ is) (kept_whole inputs)
