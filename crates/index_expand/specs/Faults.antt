-- The errors of the expansion.
use Rattle.std.specs.Prelude.{ℕ, ◌+◌, ◌*◌, List, [], ◌∷◌, filter, length, Option, None, Some, nat_lt, if◌then◌else◌}
use Rattle.std.specs.List.{flat_map, sum_by}
use Rattle.std.specs.Option.{option_or}
use Rattle.m_places.specs.declared.limits.TheConstants.{PARTS}
use Rattle.m_places.specs.declared.place.Place.{Place}
use Rattle.m_ast.specs.declared.item.Formula.{Formula}
use Rattle.m_ast.specs.declared.item.CheckItem.{CheckItem}
use Rattle.m_ast.specs.declared.item.Item.{Item}
use Rattle.m_ast.specs.declared.item.Item.TheVariants.{Variable, Rule, Verif, Error, Silent}
use Rattle.m_symbols.specs.Declarations.{Declared}
use Rattle.index_expand.specs.declared.fault.ExpandFault.{ExpandFault}
use Rattle.index_expand.specs.declared.fault.ExpandFault.TheVariants.{TooManyParts}
use Rattle.index_expand.specs.Expansion.{counts_in, formula_definitions}
use Rattle.index_expand.specs.LoopFaults.{item_faults, least}
use Rattle.index_expand.specs.Parts.{parts}

abbrev pub formula_parts : Declared → Formula → ℕ
formula_parts declared formula = length (formula_definitions declared formula) * (parts formula.term + 1)

abbrev pub check_parts : CheckItem → ℕ
check_parts check = parts check.condition + 1

-- the parts of an item's definitions and conditions, with one for each of these
abbrev pub item_parts : Declared → Item → ℕ
item_parts declared (Rule r) = sum_by (formula_parts declared) r.formulas
item_parts declared (Verif v) = sum_by check_parts v.checks
item_parts declared _ = 0

-- the place of an item's first token
abbrev pub item_place : Item → Place
item_place (Variable v) = v.place
item_place (Rule r) = r.place
item_place (Verif v) = v.place
item_place (Error e) = e.place
item_place (Silent p) = p

-- the item at which the parts exceed 2,000,000, if the items before have this many
abbrev pub too_many : Declared → ℕ → List Item → Option ExpandFault
too_many declared before [] = None
too_many declared before (item ∷ items) =
    if nat_lt PARTS (before + item_parts declared item) then Some (TooManyParts (item_place item))
    else too_many declared (before + item_parts declared item) items

-- The error of the expansion. Of the faulty ranges, the loops that are too large and the unbound
-- letters, the one with the least place is reported; too many parts only if there is none of these.
abbrev pub expand_fault : List Item → List ℕ → Declared → Option ExpandFault
expand_fault items application declared =
    option_or (least None (flat_map item_faults (filter (counts_in application) items)))
    (too_many declared 0 (filter (counts_in application) items))
