-- The items of rule files: each literal of a formula, and each constant, is an amount.
use Rattle.std.proofs.Common.{◌≡◌, ℕ, Bool, List, Some, ℤ, subst}
use Rattle.std.specs.List.{AllByRecursion}
use Rattle.m_fixed.specs.Amounts.{IsAmount}
use Rattle.m_places.specs.declared.source.Text.{Text}
use Rattle.m_lexer.specs.declared.token.Token.{Token}
use Rattle.m_lexer.specs.declared.token.Kind.{Kind}
use Rattle.m_lexer.specs.declared.token.Kind.TheVariants.{Word, Number, Text as Quoted, Key, Sign}
use Rattle.m_lexer.specs.declared.token.Key.{Key as AKey}
use Rattle.m_ast.specs.declared.header.Header.{Header}
use Rattle.m_ast.specs.declared.item.Item.{Item}
use Rattle.m_ast.specs.declared.item.Item.TheVariants.{Variable, Rule, Verif, Error, Silent}
use Rattle.m_ast.specs.declared.item.Formula.{Formula}
use Rattle.m_ast.specs.declared.item.RuleItem.{RuleItem}
use Rattle.m_ast.specs.declared.item.Slot.{Slot}
use Rattle.m_ast.specs.declared.variable.VariableItem.{VariableItem}
use Rattle.m_ast.specs.declared.variable.Role.{Role}
use Rattle.m_ast.specs.declared.variable.Role.TheVariants.{Input, Computed, Constant}
use Rattle.m_lexer.specs.Chains.{First, first, ended, further}
use Rattle.m_items.specs.Tokens.{amount, amount_of, word}
use Rattle.m_items.specs.DeclarationGrammar.{SpellsAmount, positive, negative, SpellsVariable, input, computed, constant, SpellsDeclaration, a_variable}
use Rattle.m_items.specs.DeclarationGrammar.{an_error, an_application, a_chaining}
use Rattle.m_items.proofs.DeclarationPassLaws.{applications_passes, declaration_passes}
use Rattle.m_items.specs.Many.{Many, no_more, one_more, one}
use Rattle.m_items.specs.declared.head.Head.{Head}
use Rattle.m_items.specs.RuleGrammar.{SpellsHead, head, SpellsLoops, SpellsSlot, no_index, every_cell, one_cell, SpellsFormula, formula, SpellsChaining}
use Rattle.m_items.specs.RuleGrammar.{unchained, chained, SpellsRule, rule}
use Rattle.m_items.proofs.RulePassLaws.{loop_passes, verification_passes}
use Rattle.m_items.specs.Grammar.{SpellsItem, a_declaration, a_rule, a_verification}
use Rattle.rule_base.specs.Files.{SayAll, no_files, a_file}
use Rattle.m_compile.proofs.words.Items.{all_append}
use Rattle.report_laws.proofs.Operators.{opposite_amount}
use Rattle.report_laws.proofs.Literals.{SaysAmounts, HasAmount, HaveAmount, lexed_amounts, left_amounts, Keeps, first_left, term_keeps}

-- a constant's amount is within the bounds
abbrev pub IsOfAmount : Role → Type 0
IsOfAmount (Input code) = Unit {0}
IsOfAmount (Computed size) = Unit {0}
IsOfAmount (Constant z) = IsAmount z

abbrev pub FormulaSays : Formula → Type 0
FormulaSays f = SaysAmounts f.term

-- an item's constant and the literals of its formulas are amounts
abbrev pub ItemSays : Item → Type 0
ItemSays (Variable v) = IsOfAmount v.role
ItemSays (Rule r) = AllByRecursion FormulaSays r.formulas
ItemSays (Verif v) = Unit {0}
ItemSays (Error e) = Unit {0}
ItemSays (Silent p) = Unit {0}

-- ---- constants

number_of : (k : Kind) (z : ℤ) → amount_of k ≡ Some z → HasAmount k → IsAmount z
number_of (Number y n) z e h = let same : y ≡ z = cc in subst IsAmount same h
number_of (Word w) z e h = absurd (cc)
number_of (Quoted inside) z e h = absurd (cc)
number_of (Key k) z e h = absurd (cc)
number_of (Sign s) z e h = absurd (cc)

first_amount : {z : ℤ} {ts rest : List Token} → First amount z ts rest → HaveAmount ts → IsAmount z
first_amount {z} (first {t = t} e) a = number_of t.kind z e a.0

amount_spelled : {z : ℤ} {ts rest : List Token} → SpellsAmount z ts rest → HaveAmount ts → IsAmount z
amount_spelled (positive d) a = first_amount d a
amount_spelled (negative {z = z} s d) a = opposite_amount z (first_amount d (first_left s a))

variable_meaning : {v : VariableItem} {ts rest : List Token} → SpellsVariable v ts rest → HaveAmount ts → IsOfAmount v.role
variable_meaning (input d s k e j f g) a = tt
variable_meaning (computed d s e j f g) a = tt
variable_meaning (constant d s k f g h) a = amount_spelled g (first_left f (first_left k (first_left s (first_left d a))))

declaration_meaning : {i : Item} {ts rest : List Token} → SpellsDeclaration i ts rest → HaveAmount ts → ItemSays i
declaration_meaning (a_variable d) a = variable_meaning d a
declaration_meaning (an_error d) a = tt
declaration_meaning (an_application k d s) a = tt
declaration_meaning (a_chaining k d e s) a = tt

-- ---- rules

many_keep : {A : Type 0} (R : A → List Token → List Token → Type 0) (Good : A → Type 0) → Keeps Good R → {xs : List A} {ts rest : List Token}
    → Many R xs ts rest → HaveAmount ts → AllByRecursion Good xs × HaveAmount rest
many_keep R Good keeps no_more a = (tt, a)
many_keep R Good keeps (one_more d e) a =
    let k = keeps _ _ _ d a in
    let m = many_keep R Good keeps e k.1 in
    ((k.0, m.0), m.1)

words_left : {words : List (List ℕ)} {ts rest : List Token} → Many (First word) words ts rest → HaveAmount ts → HaveAmount rest
words_left no_more a = a
words_left (one_more d e) a = words_left e (first_left d a)

head_left : {k : AKey} {h : Head} {ts rest : List Token} → SpellsHead k h ts rest → HaveAmount ts → HaveAmount rest
head_left (head d w e s f g) a = first_left g (left_amounts (applications_passes _ _ _ f) (first_left s (first_left e (words_left w (first_left d a)))))

chaining_left : {c : Bool} {ts rest : List Token} → SpellsChaining c ts rest → HaveAmount ts → HaveAmount rest
chaining_left unchained a = a
chaining_left (chained k s d e) a = first_left e (first_left d (first_left s (first_left k a)))

loops_left : {hs : List Header} {ts rest : List Token} → SpellsLoops hs ts rest → HaveAmount ts → HaveAmount rest
loops_left ended a = a
loops_left (further o d c) a = loops_left c (left_amounts (loop_passes _ _ _ d) a.1)

slot_left : {s : Slot} {ts rest : List Token} → SpellsSlot s ts rest → HaveAmount ts → HaveAmount rest
slot_left no_index a = a
slot_left (every_cell o k c) a = first_left c (first_left k (first_left o a))
slot_left (one_cell o d c) a = first_left c (first_left d (first_left o a))

formula_keeps : Keeps FormulaSays SpellsFormula
formula_keeps _ _ _ (formula l d e s f g) a =
    let k = term_keeps _ _ _ f (first_left s (slot_left e (first_left d (loops_left l a)))) in
    (k.0, first_left g k.1)

rule_keeps : {r : RuleItem} {ts rest : List Token} → SpellsRule r ts rest → HaveAmount ts → AllByRecursion FormulaSays r.formulas × HaveAmount rest
rule_keeps (rule d e (one f g)) a =
    let k = formula_keeps _ _ _ f (chaining_left e (head_left d a)) in
    let m = many_keep SpellsFormula FormulaSays formula_keeps g k.1 in
    ((k.0, m.0), m.1)

-- ---- files

item_keeps : Keeps ItemSays SpellsItem
item_keeps _ _ _ (a_declaration d) a = (declaration_meaning d a, left_amounts (declaration_passes _ _ _ d) a)
item_keeps _ _ _ (a_rule d) a = rule_keeps d a
item_keeps _ _ _ (a_verification d) a = (tt, left_amounts (verification_passes _ _ _ d) a)

pub files_meaning : {number : ℕ} {texts : List Text} {items : List Item} → SayAll number texts items → AllByRecursion ItemSays items
files_meaning no_files = tt
files_meaning (a_file s rest) = all_append ItemSays _ _ (many_keep SpellsItem ItemSays item_keeps s.spelled (lexed_amounts s.lexed)).0 (files_meaning rest)
