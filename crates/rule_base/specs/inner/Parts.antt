-- The steps from rule files to a base, one by one.
use Rattle.std.specs.Prelude.{◌≡◌, ℕ, List, map, Some, None, Ok, Err}
use Rattle.m_places.specs.declared.source.Text.{Text}
use Rattle.m_lexer.specs.declared.fault.LexFault.{LexFault}
use Rattle.m_ast.specs.declared.item.Item.{Item}
use Rattle.m_items.specs.declared.fault.ParseFault.{ParseFault}
use Rattle.rule_base.specs.Files.{IsFirstFileFault}
use Rattle.rule_base.specs.declared.read_fault.ReadFault.TheVariants as read
use Rattle.m_symbols.specs.Declarations.{Declared}
use Rattle.index_expand.specs.Expansion.{expansion}
use Rattle.index_expand.specs.Faults.{expand_fault}
use Rattle.index_expand.specs.declared.fault.ExpandFault.{ExpandFault}
use Rattle.m_resolve.specs.Bases.{resolved}
use Rattle.m_resolve.specs.declared.fault.ResolveFault.{ResolveFault}
use Rattle.micro_m.specs.declared.base.Base.{Base}
use Rattle.micro_m.specs.Reads.{Reads, IsCycle, BeginsWithLeast}
use Rattle.m_symbols.specs.Cells.{cell_name}
use Rattle.rule_base.specs.declared.fault.RuleFault.{RuleFault}
use Rattle.rule_base.specs.declared.fault.RuleFault.TheVariants.{Lex, Parse, Expand, Resolve, Cycle}

-- why the rule files don't parse
pub data IsReadFault (texts : List Text) : RuleFault → Type 0 where
  bad_tokens : {fault : LexFault} → IsFirstFileFault 0 texts (read.Lex fault) → IsReadFault texts (Lex fault)
  bad_items : {fault : ParseFault} → IsFirstFileFault 0 texts (read.Parse fault) → IsReadFault texts (Parse fault)

-- the items' rules resolve to this base over the declarations
pub record IsBaseOver (items : List Item) (application : List ℕ) (declared : Declared) (base : Base) : Type 0 where
  pub expands : expand_fault items application declared ≡ None
  pub resolves : resolved declared (expansion items application declared) ≡ Ok base

-- why the items' rules resolve to no base
pub data IsOverFault (items : List Item) (application : List ℕ) (declared : Declared) : RuleFault → Type 0 where
  loops : {fault : ExpandFault} → expand_fault items application declared ≡ Some fault → IsOverFault items application declared (Expand fault)
  names : {fault : ResolveFault} → expand_fault items application declared ≡ None → resolved declared (expansion items application declared) ≡ Err fault
      → IsOverFault items application declared (Resolve fault)

-- a cycle of the base, reported by the names of its cells
pub data ShowsNamedCycle (declared : Declared) (base : Base) : RuleFault → Type 0 where
  shown : (cells : List ℕ) → IsCycle (Reads base) cells → BeginsWithLeast cells → ShowsNamedCycle declared base (Cycle (map (cell_name declared) cells))
