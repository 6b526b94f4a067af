-- The scheme that a code file shows.
use Rattle.std.proofs.Common.{◌≡◌, ℕ, suc, ◌<◌, length, get_or, Bool, true, false, List, [], ◌∷◌, Option, None, Some, refl, sym, arith}
use Rattle.std.specs.Prelude.{◌||◌, option_map, slice_get, slice_index_or}
use Rattle.std.specs.Str.{bytes_eq}
use Rattle.std.proofs.lemmas.Option.{slice_get-get_or}
use Rattle.m_names.specs.Names.{AreDistinct, has}
use Rattle.m_names.proofs.NameLemmas.{same}
use Rattle.observables.specs.declared.answer.Answer.{Answer}
use Rattle.observables.specs.declared.answer.Answer.TheVariants.{Values, Stopped}
use Rattle.observables.specs.declared.face.Face.{Face}
use Rattle.observables.specs.declared.face.FaceLabel.{FaceLabel}
use Rattle.observables.specs.declared.face.FaceLabel.TheVariants.{DriverLine}
use Rattle.observables.specs.Answers.{Observation, values, stopped, cause_of, label_number, observation}
use Rattle.observables.specs.Inputs.{codes_of}
use Rattle.observables.specs.Outputs.{names_of, notes_of}
use Rattle.reg_machine.specs.Machine.{machine_run}
use Rattle.code_file.specs.Printable.{AreApart}
use Rattle.code_file.specs.Reading.{IsFormOf}
use Rattle.code_file.specs.declared.loaded.Loaded.{Loaded}
use Rattle.tax_print.specs.Lines.{AnswerIsWithin}
use Rattle.code_answers.specs.Shown.{IsRunnableCode, Shows}
use Rattle.code_answers.specs.Schemes.{Scheme}
use Rattle.code_answers.proofs.Shown.{answer_within}

-- the observation, or an empty one
abbrev reported_or : Option Observation → Observation
reported_or None = values [] []
reported_or (Some reported) = reported

-- an answer within a face has an observation
observe : (face : Face) (answer : Answer) → AnswerIsWithin face answer
    → observation face.labels (notes_of face.outputs) answer ≡ Some (reported_or (observation face.labels (notes_of face.outputs) answer))
observe face (Values vs) is = refl
observe face (Stopped stop) is = by (slice_get face.labels (label_number stop)) (slice_get-get_or face.labels (label_number stop) (DriverLine 0) is)
  where
    by : (found : Option FaceLabel) → found ≡ Some (get_or face.labels (label_number stop) (DriverLine 0))
        → option_map (λ label. stopped (cause_of stop label)) found ≡ Some (reported_or (option_map (λ label. stopped (cause_of stop label)) found))
    by None e = cc
    by (Some label) e = refl

-- the scheme of loaded code
abbrev pub code_scheme : Loaded → Scheme
code_scheme loaded = record {
  inputs = loaded.face.inputs;
  names = names_of loaded.face.outputs;
  observe = λ vs. reported_or (observation loaded.face.labels (notes_of loaded.face.outputs) (machine_run loaded.code vs));
}

pub code_shows : (loaded : Loaded) → IsRunnableCode loaded → Shows (code_scheme loaded) loaded.face (machine_run loaded.code)
code_shows loaded runs = record {
  inputs = refl;
  names = refl;
  answers = λ vs all. observe loaded.face (machine_run loaded.code vs) (answer_within loaded vs runs);
}

-- ---- a code file that was read can be run

at_or_later : (name n : List ℕ) (names : List (List ℕ)) (first : Bool)
    → (has name names ≡ true → (i : ℕ) × (i < length names) × (slice_index_or names i [] ≡ name))
    → bytes_eq name n ≡ first → (first || has name names) ≡ true → (i : ℕ) × (i < length (n ∷ names)) × (slice_index_or (n ∷ names) i [] ≡ name)
at_or_later name n names true later e t = (0, omega arith, sym (same name n e))
at_or_later name n names false later e t = let found = later t in let within = found.1 in (suc found.0, omega (arith, within), found.2)

has_at : (name : List ℕ) (names : List (List ℕ)) → has name names ≡ true → (i : ℕ) × (i < length names) × (slice_index_or names i [] ≡ name)
has_at name [] h = cc
has_at name (n ∷ names) h = at_or_later name n names (bytes_eq name n) (λ t. has_at name names t) refl h

-- names that are pairwise different are distinct
apart_distinct : (names : List (List ℕ)) → AreApart names → AreDistinct names
apart_distinct [] h = tt
apart_distinct (n ∷ names) h = (
  by (has n names) refl,
  apart_distinct names
      (λ i j a b e. fewer i j (h (suc i) (suc j) (omega (arith, a)) (omega (arith, b)) e)),
)
  where
    fewer : (i j : ℕ) → suc i ≡ suc j → i ≡ j
    fewer i j e = omega (arith, e)

    by : (again : Bool) → has n names ≡ again → again ≡ false
    by false e = refl
    by true e = let later = has_at n names e in let within = later.1 in let none : 0 ≡ suc later.0 = h 0 (suc later.0) (omega arith) (omega (arith, within))
        (sym later.2) in absurd (omega (arith, none))

pub form_runs : (bytes : List ℕ) (loaded : Loaded) → IsFormOf bytes loaded → IsRunnableCode loaded
form_runs bytes loaded is = record { whole = is.right; distinct = apart_distinct (codes_of loaded.face.inputs) is.printable.apart }
