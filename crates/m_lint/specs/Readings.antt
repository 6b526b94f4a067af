-- Which cells the rules of a base read, as tests.
use Rattle.std.specs.Prelude.{ℕ, ◌||◌, Bool, List, map}
use Rattle.std.specs.List.{list_any}
use Rattle.micro_m.specs.Trees.{Tree}
use Rattle.micro_m.specs.declared.base.Base.{Base}
use Rattle.micro_m.specs.Bases.{terms_of}
use Rattle.micro_m.specs.ReadTests.{term_reads}

-- whether one of these terms reads the cell
abbrev pub are_read : List Tree → ℕ → Bool
are_read terms c = list_any (λ term. term_reads term c) terms

-- the conditions of a base's checks, in order
abbrev pub conditions_of : Base → List Tree
conditions_of base = map (λ check. check.0) base.checks

-- Whether a definition or a check's condition reads the cell.
abbrev pub is_read : Base → ℕ → Bool
is_read base c = are_read (terms_of base) c || are_read (conditions_of base) c
