-- The configuration of a reader of records.
use Rattle.std.specs.Prelude.{◌≡◌, ◌⊎◌, ℕ, List, true}
use Rattle.std.specs.Borrow.{Bor}
use Rattle.csv.specs.Reading.{Ready, default_config, has_failed}
use Rattle.csv.specs.declared.reader.Reader.{Reader}
use Rattle.csv.specs.declared.reader.Trim.TheVariants as trim

-- A reader of the crate `csv` with the default delimiters, without a header row, for records of any
-- length and without trimming.
pub record IsPlain (reader : Reader (Bor (List ℕ))) : Type 0 where
  pub config : reader.config ≡ default_config
  pub trim : reader.trim ≡ trim.None
  pub flexible : reader.flexible ≡ true
  pub ready : Ready reader

-- a reader that is so configured, or has failed and returns no more records
abbrev pub ReadsOn : Reader (Bor (List ℕ)) → Type 0
ReadsOn reader = (has_failed reader ≡ true) ⊎ IsPlain reader
