-- Facts as a builder stores them: each number as sign and magnitude.
use Rattle.std.specs.Prelude.{ℤ, List, map, Option, Some, None, if◌then◌else◌}
use Rattle.m_fixed.specs.Rounding.{signed}
use Rattle.definedness.specs.Facts.{Possible}
use Rattle.fold_terms.specs.declared.known.PackedFact.{PackedFact}

-- the least and the greatest possible number, if any number is possible
abbrev pub range_of : PackedFact → Option (ℤ × ℤ)
range_of p = if p.numbers then Some (signed p.low_negative p.low, signed p.high_negative p.high) else None

-- the fact that is stored
abbrev pub unpacked : PackedFact → Possible
unpacked p = record { undef = p.undef; over = p.over; range = range_of p }

-- the facts that are stored
abbrev pub facts_kept : List PackedFact → List Possible
facts_kept packed = map unpacked packed
