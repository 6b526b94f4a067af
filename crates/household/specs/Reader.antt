-- The records that a reader has left, and the effect of reading one.
use Rattle.std.specs.Prelude.{◌≡◌, ℕ, List, [], ◌∷◌, ◌++◌, Option, Some, None, Bool, true, false, if◌then◌else◌}
use Rattle.csv.specs.Machine.{step, is_end, ends_at_end, fields_after, field_after}
use Rattle.csv.specs.Reading.{default_config, source_of}
use Rattle.csv.specs.declared.parser.State.{State}
use Rattle.household.specs.declared.reader.Records.{Records}

-- The records of a text from a state of the crate's machine on, given the fields and the bytes of
-- the record that was begun.
abbrev pub records_from_state : State → List (List ℕ) → List ℕ → List ℕ → List (List (List ℕ))
records_from_state s fields field [] = if ends_at_end s then (fields ++ field ∷ []) ∷ [] else []
records_from_state s fields field (c ∷ rest) =
    if is_end (step default_config s c).1
    then fields_after (step default_config s c).1 fields field ∷ records_from_state (step default_config s c).0 [] [] rest
    else records_from_state (step default_config s c).0 (fields_after (step default_config s c).1 fields field)
    (field_after (step default_config s c).1 c field) rest

-- the records of the remaining bytes from a state on; none after a failure
abbrev pub left_from : State → Option (List ℕ) → List (List (List ℕ))
left_from s None = []
left_from s (Some bytes) = records_from_state s [] [] bytes

-- the records that a reader has left; none after a failure
abbrev pub left_of : Records → List (List (List ℕ))
left_of records = left_from records.reader.state (source_of (λ bytes. Some bytes.now) records.reader)

-- The effect of a read: the next record had these fields and the reader is after it, or there was
-- none.
abbrev pub IsNext : Records → Bool → List (List ℕ) → Records → Type 0
IsNext old true fields new = left_of old ≡ fields ∷ left_of new
IsNext old false fields new = left_of old ≡ []
