-- The items of the texts of rule files, or the error of the first file that fails.
use Rattle.std.specs.Prelude.{ℕ, ◌+◌, List, [], ◌∷◌, ◌++◌}
use Rattle.m_places.specs.declared.source.Text.{Text}
use Rattle.m_lexer.specs.declared.token.Token.{Token}
use Rattle.m_lexer.specs.declared.fault.LexFault.{LexFault}
use Rattle.m_lexer.specs.Tokens.{start_of, Lexes, FirstFault}
use Rattle.m_ast.specs.declared.item.Item.{Item}
use Rattle.m_items.specs.declared.fault.ParseFault.{ParseFault}
use Rattle.m_items.specs.Grammar.{SpellsItems}
use Rattle.m_items.specs.Faults.{IsShallow, IsParseFault}
use Rattle.rule_base.specs.declared.read_fault.ReadFault.{ReadFault}
use Rattle.rule_base.specs.declared.read_fault.ReadFault.TheVariants.{Lex, Parse}

-- The text of the file with this number parses to these items: it has tokens, its nesting is within
-- the limit, and its tokens spell the items.
pub record SaysItems (number : ℕ) (text : Text) (items : List Item) : Type 0 where
  pub tokens : List Token
  pub lexed : Lexes (start_of number) text.bytes tokens
  pub shallow : IsShallow tokens
  pub spelled : SpellsItems items tokens []

-- Why the file with this number doesn't parse: the first error of its tokens, or else the first of
-- its items. Running out of memory is no error of a file.
pub data IsFileFault (number : ℕ) (text : Text) : ReadFault → Type 0 where
  of_tokens : {fault : LexFault} → FirstFault (start_of number) text.bytes fault → IsFileFault number text (Lex fault)
  of_items : {fault : ParseFault} (tokens : List Token) → Lexes (start_of number) text.bytes tokens → IsParseFault tokens fault
      → IsFileFault number text (Parse fault)

-- Each file parses to the list at its place; the first file has this number. The list of an empty
-- file is empty.
pub data SayEach : ℕ → List Text → List (List Item) → Type 0 where
  none_each : {number : ℕ} → SayEach number [] []
  one_each : {number : ℕ} {text : Text} {texts : List Text} {items : List Item} {others : List (List Item)}
      → SaysItems number text items → SayEach (number + 1) texts others → SayEach number (text ∷ texts) (items ∷ others)

-- the concatenated items of files
abbrev pub all_items : List (List Item) → List Item
all_items [] = []
all_items (items ∷ files) = items ++ all_items files

-- The texts of files, of which the first has this number, parse to these items, concatenated in the
-- order of the files.
pub data SayAll : ℕ → List Text → List Item → Type 0 where
  no_files : {number : ℕ} → SayAll number [] []
  a_file : {number : ℕ} {text : Text} {texts : List Text} {items others : List Item}
      → SaysItems number text items → SayAll (number + 1) texts others → SayAll number (text ∷ texts) (items ++ others)

-- the error of the first file that fails, where the first file has this number
pub data IsFirstFileFault : ℕ → List Text → ReadFault → Type 0 where
  here : {number : ℕ} {text : Text} {texts : List Text} {fault : ReadFault} → IsFileFault number text fault → IsFirstFileFault number (text ∷ texts) fault
  later : {number : ℕ} {text : Text} {texts : List Text} {items : List Item} {fault : ReadFault}
      → SaysItems number text items → IsFirstFileFault (number + 1) texts fault → IsFirstFileFault number (text ∷ texts) fault
