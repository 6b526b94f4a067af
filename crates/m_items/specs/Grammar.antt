-- The grammar of rule files. The last two arguments of each relation are tokens:
-- `SpellsItem i ts rest` means that a prefix of ts parses as the item i, and rest follows it.
use Rattle.std.specs.Prelude.{List}
use Rattle.m_lexer.specs.declared.token.Token.{Token}
use Rattle.m_ast.specs.declared.item.Item.{Item}
use Rattle.m_ast.specs.declared.item.Item.TheVariants.{Rule, Verif}
use Rattle.m_ast.specs.declared.item.RuleItem.{RuleItem}
use Rattle.m_ast.specs.declared.item.VerifItem.{VerifItem}
use Rattle.m_items.specs.DeclarationGrammar.{SpellsDeclaration}
use Rattle.m_items.specs.Many.{Many}
use Rattle.m_items.specs.RuleGrammar.{SpellsRule, SpellsVerification}

-- item := declaration | rule | verif
pub data SpellsItem : Item → List Token → List Token → Type 0 where
  a_declaration : {i : Item} {ts rest : List Token} → SpellsDeclaration i ts rest → SpellsItem i ts rest
  a_rule : {r : RuleItem} {ts rest : List Token} → SpellsRule r ts rest → SpellsItem (Rule r) ts rest
  a_verification : {v : VerifItem} {ts rest : List Token} → SpellsVerification v ts rest → SpellsItem (Verif v) ts rest

-- file := { item } if no tokens follow it
abbrev pub SpellsItems : List Item → List Token → List Token → Type 0
SpellsItems = Many SpellsItem
