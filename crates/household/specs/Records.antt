-- Comma-separated records.
use Rattle.std.specs.Prelude.{ℕ, List}
use Rattle.csv.specs.Reading.{records, default_config, strip_bom}

-- The records of bytes, as the crate `csv` reads them without a header row, with records of any
-- length and without trimming. A record is a list of fields, and a field is a list of bytes that
-- need not be text. A byte order mark at the start is dropped, and a blank line is no record:
-- `a,"b,c"`, a blank line and `d` are the records `a` `b,c` and `d`.
abbrev pub records_of : List ℕ → List (List (List ℕ))
records_of bytes = records default_config (strip_bom bytes)
