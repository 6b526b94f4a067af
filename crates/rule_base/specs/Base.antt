-- The base of rule files: the rules of an application over cells.
use Rattle.std.specs.Prelude.{◌≡◌, ℕ, List, None, Ok}
use Rattle.m_places.specs.declared.source.Text.{Text}
use Rattle.m_ast.specs.declared.item.Item.{Item}
use Rattle.rule_base.specs.Files.{SayAll}
use Rattle.m_symbols.specs.Declarations.{Declared, declared_by}
use Rattle.m_symbols.specs.Faults.{first_fault}
use Rattle.index_expand.specs.Expansion.{expansion}
use Rattle.index_expand.specs.Faults.{expand_fault}
use Rattle.micro_m.specs.declared.base.Base.{Base}
use Rattle.m_resolve.specs.Bases.{resolved}

-- The texts parse to these items, whose declarations have no error.
pub record Declares (texts : List Text) (items : List Item) : Type 0 where
  pub stated : SayAll 0 texts items
  pub faultless : first_fault items ≡ None

-- The texts declare this, and the rules of the application are this base over its cells: each loop
-- is replaced by its instances and each name by its cell, without errors.
pub record IsBaseOf (texts : List Text) (application : List ℕ) (declared : Declared) (base : Base) : Type 0 where
  pub items : List Item
  pub declares : Declares texts items
  pub symbols : declared ≡ declared_by items
  pub expands : expand_fault items application declared ≡ None
  pub resolves : resolved declared (expansion items application declared) ≡ Ok base
