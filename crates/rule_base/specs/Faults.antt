-- Why rule files have no ordered base: the error of the earliest step that fails.
use Rattle.std.specs.Prelude.{◌≡◌, ℕ, List, map, Some, None, Err}
use Rattle.m_places.specs.declared.source.Text.{Text}
use Rattle.m_ast.specs.declared.item.Item.{Item}
use Rattle.m_lexer.specs.declared.fault.LexFault.{LexFault}
use Rattle.m_items.specs.declared.fault.ParseFault.{ParseFault}
use Rattle.rule_base.specs.Files.{SayAll, IsFirstFileFault}
use Rattle.rule_base.specs.declared.read_fault.ReadFault.TheVariants as read
use Rattle.m_symbols.specs.Declarations.{Declared, declared_by}
use Rattle.m_symbols.specs.Faults.{first_fault}
use Rattle.m_symbols.specs.declared.fault.DeclareFault.{DeclareFault}
use Rattle.index_expand.specs.Expansion.{expansion}
use Rattle.index_expand.specs.Faults.{expand_fault}
use Rattle.index_expand.specs.declared.fault.ExpandFault.{ExpandFault}
use Rattle.m_resolve.specs.Bases.{resolved}
use Rattle.m_resolve.specs.declared.fault.ResolveFault.{ResolveFault}
use Rattle.micro_m.specs.Reads.{Reads, IsCycle, BeginsWithLeast}
use Rattle.micro_m.specs.declared.base.Base.{Base}
use Rattle.m_symbols.specs.Cells.{cell_name}
use Rattle.rule_base.specs.declared.fault.RuleFault.{RuleFault}
use Rattle.rule_base.specs.declared.fault.RuleFault.TheVariants.{Lex, Parse, Declare, Expand, Resolve, Cycle}
use Rattle.rule_base.specs.Base.{Declares, IsBaseOf}

-- The steps in order: lexing and parsing file by file, declarations, loops, names, cycles. Any of
-- several cycles may be reported, beginning with its least cell.
pub data IsRuleFault (texts : List Text) (application : List ℕ) : RuleFault → Type 0 where
  of_tokens : {fault : LexFault} → IsFirstFileFault 0 texts (read.Lex fault) → IsRuleFault texts application (Lex fault)
  of_items : {fault : ParseFault} → IsFirstFileFault 0 texts (read.Parse fault) → IsRuleFault texts application (Parse fault)
  of_declarations : {items : List Item} {fault : DeclareFault} → SayAll 0 texts items → first_fault items ≡ Some fault
      → IsRuleFault texts application (Declare fault)
  of_loops : {items : List Item} {fault : ExpandFault} → Declares texts items → expand_fault items application (declared_by items) ≡ Some fault
      → IsRuleFault texts application (Expand fault)
  of_names : {items : List Item} {fault : ResolveFault} → Declares texts items → expand_fault items application (declared_by items) ≡ None
      → resolved (declared_by items) (expansion items application (declared_by items)) ≡ Err fault → IsRuleFault texts application (Resolve fault)
  of_a_cycle : {declared : Declared} {base : Base} (cells : List ℕ) → IsBaseOf texts application declared base → IsCycle (Reads base) cells
      → BeginsWithLeast cells → IsRuleFault texts application (Cycle (map (cell_name declared) cells))

-- Equality of errors, up to the choice of the reported cycle.
pub data AreOneRuleFault : RuleFault → RuleFault → Type 0 where
  the_same : {fault other : RuleFault} → fault ≡ other → AreOneRuleFault fault other
  both_cycles : {names others : List (List ℕ)} → AreOneRuleFault (Cycle names) (Cycle others)
