-- A choice as it is computed: from the branches that may be taken.
use Rattle.std.specs.Prelude.{Bool, true, false, ◌||◌, Option, Some, None}
use Rattle.definedness.specs.Facts.{Possible, either}

-- the branches that may be taken, if one may be
abbrev pub branches : Bool → Bool → Possible → Possible → Option Possible
branches true true a b = Some (either a b)
branches true false a b = Some a
branches false true a b = Some b
branches false false a b = None

-- undefined and Over if the condition may be, and the values of the branches
abbrev pub under_condition : Possible → Option Possible → Possible
under_condition c None = record { undef = c.undef; over = c.over; range = None }
under_condition c (Some f) = record { undef = c.undef || f.undef; over = c.over || f.over; range = f.range }
