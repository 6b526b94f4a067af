-- The grammar of rules and verifications.
--
-- The last two arguments of each relation are tokens: `SpellsFormula f ts rest` means that a prefix
-- of ts parses as the formula f, and rest follows it. Each premise of a constructor is one symbol
-- of its production, with the tokens before and after it.
use Rattle.std.specs.Prelude.{ℕ, Bool, true, false, List}
use Rattle.std.specs.Str.Parse.{digits_value}
use Rattle.m_places.specs.declared.place.Place.{Place}
use Rattle.m_lexer.specs.declared.token.Token.{Token}
use Rattle.m_lexer.specs.declared.token.Key.{Key as AKey}
use Rattle.m_lexer.specs.declared.token.Key.TheVariants as keys
use Rattle.m_lexer.specs.declared.token.Sign.TheVariants as signs
use Rattle.m_ast.specs.Syntax.{Syntax}
use Rattle.m_ast.specs.declared.header.Header.{Header}
use Rattle.m_ast.specs.declared.item.Slot.{Slot}
use Rattle.m_ast.specs.declared.item.Slot.TheVariants.{Whole, Cell, Every}
use Rattle.m_ast.specs.declared.item.Formula.{Formula}
use Rattle.m_ast.specs.declared.item.RuleItem.{RuleItem}
use Rattle.m_ast.specs.declared.item.CheckItem.{CheckItem}
use Rattle.m_ast.specs.declared.item.VerifItem.{VerifItem}
use Rattle.m_lexer.specs.Chains.{First, Chain}
use Rattle.m_terms.specs.Tokens.{is_key}
use Rattle.m_terms.specs.Headers.{SpellsHeader}
use Rattle.m_terms.specs.Terms.{SpellsTerm}
use Rattle.m_items.specs.Tokens.{word, placed_word, whole, SpellsSign, SpellsKey, SpellsKeyAt}
use Rattle.m_items.specs.DeclarationGrammar.{SpellsApplications}
use Rattle.m_items.specs.Many.{Many, OneOrMore}
use Rattle.m_items.specs.declared.head.Head.{Head}

-- The head of a rule or verification.

-- the number as spelled, the place of the first token, and the applications
abbrev pub head_of : Place → List ℕ → List (List ℕ) → Head
head_of p n names = record { number = n; place = p; applications = names }

-- ( "regle" | "verif" ) { WORD } WHOLE ":" apps ";" where the words have no meaning:
-- `regle corrective 010 : application : iliad ;`
pub data SpellsHead (k : AKey) : Head → List Token → List Token → Type 0 where
  head : {p : Place} {words : List (List ℕ)} {n : List ℕ} {names : List (List ℕ)} {ts a b c d e rest : List Token}
      → SpellsKeyAt k p ts a → Many (First word) words a b → First whole n b c → SpellsSign signs.Colon c d →
      SpellsApplications names d e → SpellsSign signs.Semicolon e rest →
      SpellsHead k (head_of p n names) ts rest

-- Formulas.

-- header ":"
pub data SpellsLoop : Header → List Token → List Token → Type 0 where
  loop : {h : Header} {ts a rest : List Token} → SpellsHeader h ts a → SpellsSign signs.Colon a rest → SpellsLoop h ts rest

-- { "pour" header ":" }
abbrev pub SpellsLoops : List Header → List Token → List Token → Type 0
SpellsLoops = Chain (is_key keys.Pour) (λ _ h. h) SpellsLoop

-- [ "[" ( "X" | WHOLE ) "]" ]
pub data SpellsSlot : Slot → List Token → List Token → Type 0 where
  no_index : {ts : List Token} → SpellsSlot Whole ts ts
  every_cell : {ts a b rest : List Token}
      → SpellsSign signs.OpenBracket ts a → SpellsKey keys.X a b → SpellsSign signs.CloseBracket b rest →
      SpellsSlot Every ts rest
  one_cell : {n : List ℕ} {ts a b rest : List Token}
      → SpellsSign signs.OpenBracket ts a → First whole n a b → SpellsSign signs.CloseBracket b rest →
      SpellsSlot (Cell (digits_value 10 n)) ts rest

-- a formula whose target is a word at this place
abbrev pub formula_of : List Header → List ℕ × Place → Slot → Syntax → Formula
formula_of loops w slot t = record { loops = loops; target = w.0; slot = slot; term = t; place = w.1 }

-- formula := { "pour" header ":" } target "=" expr ";" where target := WORD [ "[" ( "X" | WHOLE ) "]" ]
pub data SpellsFormula : Formula → List Token → List Token → Type 0 where
  formula : {loops : List Header} {w : List ℕ × Place} {slot : Slot} {t : Syntax} {ts a b c d e rest : List Token}
      → SpellsLoops loops ts a → First placed_word w a b → SpellsSlot slot b c → SpellsSign signs.Equal c d →
      SpellsTerm t d e → SpellsSign signs.Semicolon e rest →
      SpellsFormula (formula_of loops w slot t) ts rest

-- Rules.

-- [ "enchaineur" ":" WORD ";" ]: whether it is present
pub data SpellsChaining : Bool → List Token → List Token → Type 0 where
  unchained : {ts : List Token} → SpellsChaining false ts ts
  chained : {w : List ℕ} {ts a b c rest : List Token}
      → SpellsKey keys.Enchaineur ts a → SpellsSign signs.Colon a b → First word w b c → SpellsSign signs.Semicolon c rest →
      SpellsChaining true ts rest

abbrev pub rule_of : Head → Bool → List Formula → RuleItem
rule_of h b formulas = record { number = h.number; place = h.place; applications = h.applications; chained = b; formulas = formulas }

-- rule := "regle" { WORD } WHOLE ":" apps ";" [ "enchaineur" ":" WORD ";" ] formula { formula }
pub data SpellsRule : RuleItem → List Token → List Token → Type 0 where
  rule : {h : Head} {is_chained : Bool} {formulas : List Formula} {ts a b rest : List Token}
      → SpellsHead keys.Regle h ts a → SpellsChaining is_chained a b → OneOrMore SpellsFormula formulas b rest →
      SpellsRule (rule_of h is_chained formulas) ts rest

-- Verifications.

-- a check at the place of its `si`
abbrev pub check_of : Place → Syntax → List ℕ → CheckItem
check_of p t error = record { condition = t; error = error; place = p }

-- check := "si" expr "alors" "erreur" WORD { WORD } ";" where the first word is the error's name
-- and the others have no meaning
pub data SpellsCheck : CheckItem → List Token → List Token → Type 0 where
  check : {p : Place} {t : Syntax} {w : List ℕ} {words : List (List ℕ)} {ts a b c d e f rest : List Token}
      → SpellsKeyAt keys.Si p ts a → SpellsTerm t a b → SpellsKey keys.Alors b c → SpellsKey keys.Erreur c d →
      First word w d e → Many (First word) words e f → SpellsSign signs.Semicolon f rest →
      SpellsCheck (check_of p t w) ts rest

abbrev pub verification_of : Head → List CheckItem → VerifItem
verification_of h checks = record { number = h.number; place = h.place; applications = h.applications; checks = checks }

-- verif := "verif" { WORD } WHOLE ":" apps ";" check { check }
pub data SpellsVerification : VerifItem → List Token → List Token → Type 0 where
  verification : {h : Head} {checks : List CheckItem} {ts a rest : List Token}
      → SpellsHead keys.Verif h ts a → OneOrMore SpellsCheck checks a rest →
      SpellsVerification (verification_of h checks) ts rest
