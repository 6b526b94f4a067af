-- The rules and verifications of an application after the expansion of loops.
use Rattle.std.specs.Prelude.{ℕ, Bool, false, ◌&&◌, List, [], ◌∷◌, map, filter, Option, None, Some, not}
use Rattle.std.specs.List.{flat_map, list_any, range_with_len}
use Rattle.std.specs.Str.{bytes_eq}
use Rattle.m_ast.specs.declared.item.Formula.{Formula}
use Rattle.m_ast.specs.declared.item.CheckItem.{CheckItem}
use Rattle.m_ast.specs.declared.item.VerifItem.{VerifItem}
use Rattle.m_ast.specs.declared.item.Item.{Item}
use Rattle.m_ast.specs.declared.item.Item.TheVariants.{Rule, Verif}
use Rattle.m_ast.specs.declared.item.Slot.{Slot}
use Rattle.m_ast.specs.declared.item.Slot.TheVariants.{Whole, Cell, Every}
use Rattle.m_symbols.specs.Declarations.{Declared}
use Rattle.m_ast.specs.declared.plain_rules.Plain.{Plain}
use Rattle.m_ast.specs.declared.plain_rules.Definition.{Definition}
use Rattle.m_ast.specs.declared.plain_rules.Condition.{Condition}
use Rattle.m_symbols.specs.TableSizes.{table_size}
use Rattle.loop_values.specs.Letters.{Letters, no_letters, replaced}
use Rattle.loop_values.specs.Headers.{instances, all_indexes}
use Rattle.index_expand.specs.Terms.{expanded}

-- whether an item counts: a verification of the application, or a rule of it that isn't chained
abbrev pub counts_in : List ℕ → Item → Bool
counts_in application (Rule r) = not r.chained && list_any (bytes_eq application) r.applications
counts_in application (Verif v) = list_any (bytes_eq application) v.applications
counts_in application _ = false

-- ---- instances

-- a formula's definition with these bindings, in which `X` is the number of a cell, if one is given
abbrev pub defined : Formula → Slot → Option ℕ → Letters → Definition
defined formula slot cell_number letters = record {
  target = replaced letters formula.target;
  slot = slot;
  term = expanded cell_number letters formula.term;
  place = formula.place;
}

abbrev pub defined_cell : Formula → Letters → ℕ → Definition
defined_cell formula letters k = defined formula (Cell k) (Some k) letters

-- the definitions of all cells of a table of this size, from 0 up; if the target isn't a table, `X`
-- is unchanged
abbrev pub each_cell : Formula → Letters → Option ℕ → List Definition
each_cell formula letters None = defined formula Every None letters ∷ []
each_cell formula letters (Some size) = map (defined_cell formula letters) (range_with_len 0 size)

abbrev pub definitions_at : Declared → Formula → Slot → Letters → List Definition
definitions_at declared formula Whole letters = defined formula Whole None letters ∷ []
definitions_at declared formula (Cell k) letters = defined formula (Cell k) None letters ∷ []
definitions_at declared formula Every letters = each_cell formula letters (table_size declared (replaced letters formula.target))

-- The definitions of a formula, an outer loop varying slower than an inner one.
-- `pour i = A,B : Ti[X] = X ;` with the table TA of two cells and no table TB gives `TA[0] = 0`,
-- `TA[1] = 1` and `TB[X] = X`.
abbrev pub formula_definitions : Declared → Formula → List Definition
formula_definitions declared formula =
    flat_map (definitions_at declared formula formula.slot) (instances (all_indexes formula.loops) no_letters)

abbrev pub item_definitions : Declared → Item → List Definition
item_definitions declared (Rule r) = flat_map (formula_definitions declared) r.formulas
item_definitions declared _ = []

abbrev pub condition_of : VerifItem → CheckItem → Condition
condition_of verif check = record {
  verif = verif.number;
  error = check.error;
  term = expanded None no_letters check.condition;
  place = check.place;
}

abbrev pub item_conditions : Item → List Condition
item_conditions (Verif v) = map (condition_of v) v.checks
item_conditions _ = []

-- The definitions and conditions of an application without loops, both in the order of the items.
abbrev pub expansion : List Item → List ℕ → Declared → Plain
expansion items application declared = record {
  definitions = flat_map (item_definitions declared) (filter (counts_in application) items);
  conditions = flat_map item_conditions (filter (counts_in application) items);
}
