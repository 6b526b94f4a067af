-- Facts of the nodes of a flat program: which values each node may have.
use Rattle.std.specs.Prelude.{◌≢◌, ℕ, ◌<◌, List, [], length, slice_index_or}
use Rattle.std.specs.List.{AllByRecursion}
use Rattle.m_fixed.specs.declared.amount.Value.{Value}
use Rattle.m_fixed.specs.declared.amount.Value.TheVariants.{Over}
use Rattle.m_fixed.specs.Laws.{IsValue}
use Rattle.definedness.specs.Facts.{Possible, Holds, fact_of, fact_of_value, fact_of_input}
use Rattle.flat_code.specs.Runs.{Reading, entry, value_at}

-- The reading of facts, given the facts of the first inputs. Each further input may be undefined or
-- any amount. If the first input is 0 to 5 units, the sum of that input and the literal 1 is 1 to 6
-- units.
abbrev pub facts_with : List Possible → Reading Possible
facts_with given = record { input = λ n. slice_index_or given n fact_of_input; literal = fact_of_value; apply = fact_of; nothing = fact_of_input }

-- The reading of facts without facts of inputs: each input may be undefined or any amount. The
-- literal 1 can only be 1, so the sum of an input and the literal 1 is a number or Over.
abbrev pub facts : Reading Possible
facts = facts_with []

-- the fact of the node with this number, given the facts of all nodes
abbrev pub fact_at : List Possible → ℕ → Possible
fact_at known p = entry facts known p

-- a value that an input may have: undefined or an amount, never Over
pub record IsPlain (value : Value) : Type 0 where
  pub amount : IsValue value
  pub bounded : value ≢ Over

-- a list of such values
abbrev pub ArePlain : List Value → Type 0
ArePlain inputs = AllByRecursion IsPlain inputs

-- Each input is undefined or an amount, and for each fact the input with its number is possible by
-- it. A missing input counts as undefined.
pub record AreWithin (given : List Possible) (inputs : List Value) : Type 0 where
  pub plain : ArePlain inputs
  pub possible : (n : ℕ) → n < length given → Holds (slice_index_or given n fact_of_input) (value_at inputs n)
