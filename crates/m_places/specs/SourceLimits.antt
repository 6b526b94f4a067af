-- Sources within the limits of files.
use Rattle.std.specs.Prelude.{ℕ, ◌+◌, ◌≤◌, List, [], ◌∷◌, length, Option, IfSome}
use Rattle.m_places.specs.declared.limits.TheConstants.{FILE_BYTES, LIST_FILES, RULE_BYTES}
use Rattle.m_places.specs.declared.source.Text.{Text}
use Rattle.m_places.specs.declared.source.Source.{Source}

-- no rule file exceeds the limit of a file
abbrev pub EachIsWithin : List Text → Type 0
EachIsWithin [] = Unit {0}
EachIsWithin (text ∷ texts) = (length text.bytes ≤ FILE_BYTES) × EachIsWithin texts

-- the total size of rule files, in bytes
abbrev pub all_bytes : List Text → ℕ
all_bytes [] = 0
all_bytes (text ∷ texts) = length text.bytes + all_bytes texts

-- The number of rule files, the size of each and their total size are within the limits.
pub record TextsAreWithin (texts : List Text) : Type 0 where
  pub few : length texts ≤ LIST_FILES
  pub each : EachIsWithin texts
  pub total : all_bytes texts ≤ RULE_BYTES

-- a driver or a file of requests, if there is one, is within the limit of a file
abbrev pub FileIsWithin : Option (List ℕ) → Type 0
FileIsWithin bytes = IfSome bytes (λ b. length b ≤ FILE_BYTES)

-- a source whose files are all within the limits
pub record SourceKeepsLimits (source : Source) : Type 0 where
  pub texts : TextsAreWithin source.texts
  pub driver : FileIsWithin source.driver
  pub requests : FileIsWithin source.requests
