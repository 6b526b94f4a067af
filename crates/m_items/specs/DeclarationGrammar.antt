-- The grammar of items without terms: variables, errors, and items without effect.
--
-- The last two arguments of each relation are tokens: `SpellsVariable v ts rest` means that a
-- prefix of ts parses as the variable v, and rest follows it. Each premise of a constructor is one
-- symbol of its production, with the tokens before and after it.
use Rattle.std.specs.Prelude.{◌≡◌, ◌⊎◌, ℕ, ℤ, neg_ℤ, List, [], length, Option, Some, None}
use Rattle.std.specs.List.{filter_map}
use Rattle.std.specs.Str.Parse.{digits_value}
use Rattle.m_places.specs.declared.place.Place.{Place}
use Rattle.m_places.specs.declared.verification.ErrorKind.{ErrorKind}
use Rattle.m_lexer.specs.declared.token.Token.{Token}
use Rattle.m_lexer.specs.declared.token.Key.TheVariants as keys
use Rattle.m_lexer.specs.declared.token.Sign.TheVariants as signs
use Rattle.m_ast.specs.declared.item.Item.{Item}
use Rattle.m_ast.specs.declared.item.Item.TheVariants as items
use Rattle.m_ast.specs.declared.item.ErrorItem.{ErrorItem}
use Rattle.m_ast.specs.declared.variable.VariableItem.{VariableItem}
use Rattle.m_ast.specs.declared.variable.Role.{Role}
use Rattle.m_ast.specs.declared.variable.Role.TheVariants.{Input, Computed, Constant}
use Rattle.m_lexer.specs.Chains.{First, Chain}
use Rattle.m_terms.specs.Tokens.{is_sign, Joined}
use Rattle.m_items.specs.Tokens.{word, name, whole, amount, text, error_kind, SpellsSign, SpellsKey, SpellsKeyAt}

-- [ "-" ] NUMBER: `-0.5` is the amount with the opposite sign
pub data SpellsAmount : ℤ → List Token → List Token → Type 0 where
  positive : {z : ℤ} {ts rest : List Token} → First amount z ts rest → SpellsAmount z ts rest
  negative : {z : ℤ} {ts a rest : List Token} → SpellsSign signs.Minus ts a → First amount z a rest → SpellsAmount (neg_ℤ z) ts rest

-- Attributes.

-- an attribute, with its number where it has one: `restituee`, or `classe = 0`
abbrev pub Attribute : Type 0
Attribute = List ℕ × Option ℤ

abbrev pub attribute : List ℕ → Option ℤ → Attribute
attribute w z = (w, z)

abbrev pub word_without : List ℕ → Option ℤ → Option (List ℕ)
word_without w None = Some w
word_without w (Some z) = None

abbrev pub pair_with : List ℕ → Option ℤ → Option (List ℕ × ℤ)
pair_with w None = None
pair_with w (Some z) = Some (w, z)

-- the attributes without a number, in order
abbrev pub words_of : List Attribute → List (List ℕ)
words_of = filter_map (λ (a : Attribute). word_without a.0 a.1)

-- the attributes with a number, in order
abbrev pub pairs_of : List Attribute → List (List ℕ × ℤ)
pairs_of = filter_map (λ (a : Attribute). pair_with a.0 a.1)

-- [ "=" [ "-" ] NUMBER ]
pub data SpellsNumber : Option ℤ → List Token → List Token → Type 0 where
  without : {ts : List Token} → SpellsNumber None ts ts
  with_one : {z : ℤ} {ts a rest : List Token} → SpellsSign signs.Equal ts a → SpellsAmount z a rest → SpellsNumber (Some z) ts rest

-- the attributes without a number, and those with one
abbrev pub Attributes : Type 0
Attributes = List (List ℕ) × List (List ℕ × ℤ)

-- for `restituee classe = 0 base` they are `restituee` and `base`, and `classe` with 0
abbrev pub attributes_of : List Attribute → Attributes
attributes_of xs = (words_of xs, pairs_of xs)

abbrev pub no_attributes : Attributes
no_attributes = ([], [])

-- { attribute } where attribute := WORD [ "=" [ "-" ] NUMBER ]
pub data SpellsAttributes : Attributes → List Token → List Token → Type 0 where
  attributes : {xs : List Attribute} {ts rest : List Token} → Chain word attribute SpellsNumber xs ts rest → SpellsAttributes (attributes_of xs) ts rest

-- Variables.

-- a variable of this name and place
abbrev pub variable : List ℕ × Place → Role → Attributes → Option (List ℕ) → VariableItem
variable n role l w = record { name = n.0; place = n.1; role = role; words = l.0; pairs = l.1; value_word = w }

-- [ "type" WORD ]
pub data SpellsType : Option (List ℕ) → List Token → List Token → Type 0 where
  no_type : {ts : List Token} → SpellsType None ts ts
  a_type : {w : List ℕ} {ts a rest : List Token} → SpellsKey keys.TypeKey ts a → First word w a rest → SpellsType (Some w) ts rest

-- ":" TEXT [ "type" WORD ] ";" where the text has no meaning
pub data SpellsEnd : Option (List ℕ) → List Token → List Token → Type 0 where
  ending : {x : List ℕ} {w : Option (List ℕ)} {ts a b c rest : List Token}
      → SpellsSign signs.Colon ts a → First text x a b → SpellsType w b c → SpellsSign signs.Semicolon c rest →
      SpellsEnd w ts rest

-- [ "tableau" "[" WHOLE "]" ]: the number of cells
pub data SpellsSize : Option ℕ → List Token → List Token → Type 0 where
  no_table : {ts : List Token} → SpellsSize None ts ts
  table : {n : List ℕ} {ts a b c rest : List Token}
      → SpellsKey keys.Tableau ts a → SpellsSign signs.OpenBracket a b → First whole n b c → SpellsSign signs.CloseBracket c rest →
      SpellsSize (Some (digits_value 10 n)) ts rest

-- variable := NAME ":" "saisie" { attribute } "alias" WORD ":" TEXT [ "type" WORD ] ";"
--     | NAME ":" [ "tableau" "[" WHOLE "]" ] "calculee" { attribute } ":" TEXT [ "type" WORD ] ";"
--     | NAME ":" "const" "=" [ "-" ] NUMBER ";"
pub data SpellsVariable : VariableItem → List Token → List Token → Type 0 where
  input : {n : List ℕ × Place} {l : Attributes} {code : List ℕ} {w : Option (List ℕ)} {ts a b c d e f rest : List Token}
      → First name n ts a → SpellsSign signs.Colon a b → SpellsKey keys.Saisie b c → SpellsAttributes l c d →
      SpellsKey keys.Alias d e → First word code e f → SpellsEnd w f rest →
      SpellsVariable (variable n (Input code) l w) ts rest
  computed : {n : List ℕ × Place} {size : Option ℕ} {l : Attributes} {w : Option (List ℕ)} {ts a b c d e rest : List Token}
      → First name n ts a → SpellsSign signs.Colon a b → SpellsSize size b c → SpellsKey keys.Calculee c d →
      SpellsAttributes l d e → SpellsEnd w e rest →
      SpellsVariable (variable n (Computed size) l w) ts rest
  constant : {n : List ℕ × Place} {z : ℤ} {ts a b c d e rest : List Token}
      → First name n ts a → SpellsSign signs.Colon a b → SpellsKey keys.Const b c → SpellsSign signs.Equal c d →
      SpellsAmount z d e → SpellsSign signs.Semicolon e rest →
      SpellsVariable (variable n (Constant z) no_attributes None) ts rest

-- Errors.

-- TEXT { ":" TEXT }
abbrev pub SpellsTexts : List (List ℕ) → List Token → List Token → Type 0
SpellsTexts = Joined (is_sign signs.Colon) (First text)

-- an error has four or five texts
abbrev pub IsFourOrFive : ℕ → Type 0
IsFourOrFive n = (n ≡ 4) ⊎ (n ≡ 5)

abbrev pub error_item : List ℕ × Place → ErrorKind → List (List ℕ) → ErrorItem
error_item n k texts = record { name = n.0; place = n.1; kind = k; texts = texts }

-- error := NAME ":" ( "anomalie" | "discordance" | "informative" ) ":" TEXT ":" TEXT ":" TEXT ":" TEXT [ ":" TEXT ] ";"
pub data SpellsError : ErrorItem → List Token → List Token → Type 0 where
  error : {n : List ℕ × Place} {k : ErrorKind} {texts : List (List ℕ)} {ts a b c d e rest : List Token}
      → First name n ts a → SpellsSign signs.Colon a b → First error_kind k b c → SpellsSign signs.Colon c d →
      SpellsTexts texts d e → IsFourOrFive (length texts) → SpellsSign signs.Semicolon e rest →
      SpellsError (error_item n k texts) ts rest

-- Applications, and items.

-- apps := "application" ":" WORD { "," WORD }
pub data SpellsApplications : List (List ℕ) → List Token → List Token → Type 0 where
  applications : {names : List (List ℕ)} {ts a b rest : List Token}
      → SpellsKey keys.Application ts a → SpellsSign signs.Colon a b → Joined (is_sign signs.Comma) (First word) names b rest →
      SpellsApplications names ts rest

-- declaration := variable | error | "application" WORD ";" | "enchaineur" WORD apps ";"
-- The place of each is that of its first token.
pub data SpellsDeclaration : Item → List Token → List Token → Type 0 where
  a_variable : {v : VariableItem} {ts rest : List Token} → SpellsVariable v ts rest → SpellsDeclaration (items.Variable v) ts rest
  an_error : {e : ErrorItem} {ts rest : List Token} → SpellsError e ts rest → SpellsDeclaration (items.Error e) ts rest
  an_application : {p : Place} {w : List ℕ} {ts a b rest : List Token}
      → SpellsKeyAt keys.Application p ts a → First word w a b → SpellsSign signs.Semicolon b rest →
      SpellsDeclaration (items.Silent p) ts rest
  a_chaining : {p : Place} {w : List ℕ} {names : List (List ℕ)} {ts a b c rest : List Token}
      → SpellsKeyAt keys.Enchaineur p ts a → First word w a b → SpellsApplications names b c → SpellsSign signs.Semicolon c rest →
      SpellsDeclaration (items.Silent p) ts rest
