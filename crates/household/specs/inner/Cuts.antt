-- Positions between the records of bytes without quotation marks.
use Rattle.std.specs.Prelude.{◌≡◌, ℕ, zero, suc, ◌*◌, ◌<◌, ◌≤◌, List, [], ◌∷◌, drop, length, get_or, Option, Some, None, false}
use Rattle.csv.specs.Machine.{ends_with}
use Rattle.csv.specs.declared.parser.State.TheVariants as st
use Rattle.csv.specs.declared.parser.Terminator.TheVariants as term
use Rattle.household.specs.Lines.{IsLineEnd}
use Rattle.household.specs.Reader.{records_from_state}
use Rattle.household.specs.declared.cuts.TheConstants.{BETWEEN}

-- The number of bytes before the first line end, or before the end of the bytes.
abbrev pub IsLine : ℕ → List ℕ → Type 0
IsLine zero bytes = IsLineEnd bytes
IsLine (suc n) [] = ⊥
IsLine (suc n) (byte ∷ bytes) = (ends_with term.CRLF byte ≡ false) × IsLine n bytes

-- A position at a line end, or at the end of the bytes.
pub record IsCut (bytes : List ℕ) (cut : ℕ) : Type 0 where
  pub within : cut ≤ length bytes
  pub ends : IsLineEnd (drop cut bytes)

-- the records from a position between records on
abbrev pub left_at : List ℕ → ℕ → List (List (List ℕ))
left_at bytes at = records_from_state st.StartRecord [] [] (drop at bytes)

-- The next record from a position on ends here; or there is none.
abbrev pub GoesOver : List ℕ → ℕ → Option ℕ → Type 0
GoesOver bytes from (Some end) = IsCut bytes end × ((fields : List (List ℕ)) × (left_at bytes from ≡ fields ∷ left_at bytes end))
GoesOver bytes from None = left_at bytes from ≡ []

-- This many records from a position on end here; or there are fewer.
abbrev pub GoesOverAll : List ℕ → ℕ → ℕ → Option ℕ → Type 0
GoesOverAll bytes count from (Some end) = IsCut bytes end × (left_at bytes end ≡ drop count (left_at bytes from)) × (count ≤ length (left_at bytes from))
GoesOverAll bytes count from None = length (left_at bytes from) < count

-- A cut after this many of these records.
abbrev pub IsCutAfter : List ℕ → List (List (List ℕ)) → ℕ → ℕ → Type 0
IsCutAfter bytes records count cut = IsCut bytes cut × (left_at bytes cut ≡ drop count records)

-- Cuts of these records at regular distances; after the last cut there are fewer records than
-- between two.
pub record AreCuts (bytes : List ℕ) (records : List (List (List ℕ))) (cuts : List ℕ) : Type 0 where
  pub each : (n d : ℕ) → n < length cuts → IsCutAfter bytes records (n * BETWEEN) (get_or cuts n d)
  pub far : length records < length cuts * BETWEEN
