-- Words of items, by the spellings of their tokens.
use Rattle.std.proofs.Common.{ℕ, List, [], ◌∷◌, ◌++◌, length}
use Rattle.std.specs.Prelude.{IfSome}
use Rattle.std.specs.List.{AllByRecursion}
use Rattle.m_lexer.specs.declared.token.Token.{Token}
use Rattle.m_ast.specs.declared.item.Item.{Item}
use Rattle.m_ast.specs.declared.item.Item.TheVariants.{Variable, Rule, Verif, Error, Silent}
use Rattle.m_ast.specs.declared.item.ErrorItem.{ErrorItem}
use Rattle.m_ast.specs.declared.variable.VariableItem.{VariableItem}
use Rattle.m_ast.specs.Items.{variable_code}
use Rattle.m_places.specs.declared.source.Text.{Text}
use Rattle.m_lexer.specs.Chains.{Chain, ended, further}
use Rattle.m_terms.proofs.Passes.{Behind, over, skip, first_passes}
use Rattle.m_items.specs.Tokens.{word as a_word}
use Rattle.m_items.specs.DeclarationGrammar.{Attribute, attribute, Attributes, SpellsNumber, SpellsAttributes, attributes, SpellsVariable, input, computed}
use Rattle.m_items.specs.DeclarationGrammar.{constant, SpellsError, error, IsFourOrFive, SpellsDeclaration, a_variable, an_error, an_application, a_chaining}
use Rattle.m_items.proofs.DeclarationPassLaws.{number_on}
use Rattle.m_items.specs.Many.{Many, no_more, one_more}
use Rattle.m_items.specs.RuleGrammar.{head, verification}
use Rattle.m_items.specs.Grammar.{SpellsItem, a_declaration, a_rule, a_verification}
use Rattle.m_items.proofs.ItemLaws.{item_passes}
use Rattle.rule_base.specs.Files.{SayAll, no_files, a_file}
use Rattle.code_file.specs.Printable.{IsFreeWord, IsPlainName}
use Rattle.m_compile.proofs.words.Tokens.{AreSpelled, lexed_spelled, behind_spelled, word_free, name_plain, IsWholeNumber, whole_number}

-- the words of an item: names are plain, codes are free words, a verification has a number of at
-- most nine digits, and an error has four or five texts
abbrev pub IsWordedVariable : VariableItem → Type 0
IsWordedVariable v = IsPlainName v.name × IfSome (variable_code v) IsFreeWord

abbrev pub IsWordedError : ErrorItem → Type 0
IsWordedError e = IsPlainName e.name × IsFourOrFive (length e.texts)

abbrev pub IsWorded : Item → Type 0
IsWorded (Variable v) = IsWordedVariable v
IsWorded (Rule r) = Unit {0}
IsWorded (Verif v) = IsWholeNumber v.number
IsWorded (Error e) = IsWordedError e
IsWorded (Silent p) = Unit {0}

-- optional attributes
chain_behind : {xs : List Attribute} {ts mid rest : List Token} → Behind mid ts → Chain a_word attribute SpellsNumber xs mid rest → Behind rest ts
chain_behind b ended = b
chain_behind b (further o d c) = chain_behind (number_on (skip b) d) c

attributes_behind : {l : Attributes} {ts mid rest : List Token} → Behind mid ts → SpellsAttributes l mid rest → Behind rest ts
attributes_behind b (attributes c) = chain_behind b c

variable_worded : {v : VariableItem} {ts rest : List Token} → SpellsVariable v ts rest → AreSpelled ts → IsWordedVariable v
variable_worded (input d s k e j f g) a = (
  name_plain d a,
  word_free f (behind_spelled (over (attributes_behind (over (first_passes d) (over (first_passes s) (first_passes k))) e) (first_passes j))
      a),
)
variable_worded (computed d s e j f g) a = (name_plain d a, tt)
variable_worded (constant d s k f g h) a = (name_plain d a, tt)

error_worded : {e : ErrorItem} {ts rest : List Token} → SpellsError e ts rest → AreSpelled ts → IsWordedError e
error_worded (error d s k t f count h) a = (name_plain d a, count)

declaration_worded : {i : Item} {ts rest : List Token} → SpellsDeclaration i ts rest → AreSpelled ts → IsWorded i
declaration_worded (a_variable d) a = variable_worded d a
declaration_worded (an_error d) a = error_worded d a
declaration_worded (an_application k d s) a = tt
declaration_worded (a_chaining k d e s) a = tt

item_worded : {i : Item} {ts rest : List Token} → SpellsItem i ts rest → AreSpelled ts → IsWorded i
item_worded (a_declaration d) a = declaration_worded d a
item_worded (a_rule d) a = tt
item_worded (a_verification (verification (head k w n s f g) e)) a = whole_number n

items_worded : {items : List Item} {ts rest : List Token} → Many SpellsItem items ts rest → AreSpelled ts → AllByRecursion IsWorded items
items_worded no_more a = tt
items_worded (one_more d e) a = (item_worded d a, items_worded e (behind_spelled (item_passes _ _ _ d) a))

pub all_append : {A : Type 0} (P : A → Type 0) (xs ys : List A) → AllByRecursion P xs → AllByRecursion P ys → AllByRecursion P (xs ++ ys)
all_append P [] ys h k = k
all_append P (x ∷ xs) ys h k = (h.0, all_append P xs ys h.1 k)

pub files_worded : {number : ℕ} {texts : List Text} {items : List Item} → SayAll number texts items → AllByRecursion IsWorded items
files_worded no_files = tt
files_worded (a_file s rest) = all_append IsWorded _ _ (items_worded s.spelled (lexed_spelled s.lexed)) (files_worded rest)
