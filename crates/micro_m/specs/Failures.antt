-- The first check that stops a run, and the checks that are noted.
use Rattle.std.specs.Prelude.{ℕ, Bool, true, false, not, ◌&&◌, List, [], ◌∷◌, Option, None, Some, if◌then◌else◌, slice_get}
use Rattle.std.specs.List.{cons_option}
use Rattle.std.specs.Option.{option_or, option_map_or}
use Rattle.m_fixed.specs.declared.amount.Value.{Value}
use Rattle.m_fixed.specs.declared.amount.Value.TheVariants.{Undef, Num, Over as OverValue}
use Rattle.m_fixed.specs.Operators.{is_zero}
use Rattle.m_places.specs.declared.place.Place.{Place}
use Rattle.m_places.specs.declared.verification.ErrorKind.{ErrorKind}
use Rattle.m_places.specs.declared.verification.ErrorKind.TheVariants.{Anomalie, Discordance, Informative}
use Rattle.m_places.specs.declared.verification.Label.{Label}
use Rattle.micro_m.specs.Trees.{Tree}
use Rattle.micro_m.specs.declared.base.Base.{Base}
use Rattle.micro_m.specs.declared.base.Failure.{Failure}
use Rattle.micro_m.specs.declared.base.Failure.TheVariants.{Failed, Over}
use Rattle.micro_m.specs.Values.{Environment, term_value, value_of}

-- a check: its condition, the number of its label, and its place
abbrev pub Check : Type 0
Check = Tree × ℕ × Place

-- whether an error of this kind stops a run; one of any other kind is noted
abbrev pub is_stopping : ErrorKind → Bool
is_stopping Anomalie = true
is_stopping Discordance = false
is_stopping Informative = false

-- the kind of the error of the label with this number; a number without a label counts as
-- `Anomalie`
abbrev pub kind_at : List Label → ℕ → ErrorKind
kind_at labels number = option_map_or (λ label. label.kind) (slice_get labels number) Anomalie

-- ---- the first failure

-- the failure of a check with this label and kind, from its condition's value: a number other than
-- 0 fails if the kind stops a run, and over fails for each kind
abbrev pub failure_of : Value → ErrorKind → ℕ → Option Failure
failure_of Undef kind label = None
failure_of (Num x) kind label = if not (is_zero x) && is_stopping kind then Some (Failed label) else None
failure_of OverValue kind label = Some (Over label)

-- the first check in order that stops a run, given the values of the cells
abbrev pub failure_among : List Label → Environment → List Check → Option Failure
failure_among labels values [] = None
failure_among labels values (check ∷ checks) =
    option_or (failure_of (term_value values check.0) (kind_at labels check.1) check.1) (failure_among labels values checks)

-- the first failure of a base in an environment
abbrev pub first_failure : Base → Environment → Option Failure
first_failure base given = failure_among base.labels (value_of base given) base.checks

-- ---- notes

-- whether a value is a number other than 0
abbrev pub is_met : Value → Bool
is_met Undef = false
is_met (Num x) = not (is_zero x)
is_met OverValue = false

-- the label that a check notes, from its condition's value: if its kind is noted and its condition
-- is met
abbrev pub note_of : List Label → Value → ℕ → Option Label
note_of labels value number = if is_met value && not (is_stopping (kind_at labels number)) then slice_get labels number else None

-- the labels that checks note, in order, given the values of the cells
abbrev pub notes_among : List Label → Environment → List Check → List Label
notes_among labels values [] = []
notes_among labels values (check ∷ checks) = cons_option (note_of labels (term_value values check.0) check.1) (notes_among labels values checks)

-- The notes of a base in an environment. Of three checks that are met, with labels of the kinds
-- `Discordance`, `Anomalie` and `Informative`, they are the first and the third.
abbrev pub notes_of : Base → Environment → List Label
notes_of base given = notes_among base.labels (value_of base given) base.checks
