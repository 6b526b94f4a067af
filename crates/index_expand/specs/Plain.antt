-- Rules without loops: the output of the expansion.
use Rattle.std.specs.Prelude.{◌≡◌, ℕ, List, All, None}
use Rattle.m_ast.specs.Whole.{IsWhole, HasNoLoop}
use Rattle.m_ast.specs.declared.item.Slot.{Slot}
use Rattle.m_ast.specs.declared.item.Slot.TheVariants.{Whole, Cell, Every}
use Rattle.m_ast.specs.declared.plain_rules.Plain.{Plain}
use Rattle.m_ast.specs.declared.plain_rules.Definition.{Definition}
use Rattle.m_ast.specs.declared.plain_rules.Condition.{Condition}
use Rattle.m_symbols.specs.Declarations.{Declared}
use Rattle.m_symbols.specs.TableSizes.{table_size}

-- the target of a formula for each cell is not a declared table
abbrev pub SlotIsPlain : Declared → List ℕ → Slot → Type 0
SlotIsPlain declared target Whole = Unit {0}
SlotIsPlain declared target (Cell k) = Unit {0}
SlotIsPlain declared target Every = table_size declared target ≡ None

pub record IsPlainDefinition (declared : Declared) (definition : Definition) : Type 0 where
  pub slot : SlotIsPlain declared definition.target definition.slot
  pub whole : IsWhole definition.term
  pub loopless : HasNoLoop definition.term

pub record IsPlainCondition (condition : Condition) : Type 0 where
  pub whole : IsWhole condition.term
  pub loopless : HasNoLoop condition.term

-- Under these declarations each term is whole and has no loop, and no `T[X]` is of a declared
-- table.
pub record IsPlain (declared : Declared) (plain : Plain) : Type 0 where
  pub definitions : All (IsPlainDefinition declared) plain.definitions
  pub conditions : All IsPlainCondition plain.conditions
