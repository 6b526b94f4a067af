-- The first error of a list of tokens, and its place.
use Rattle.std.specs.Prelude.{◌≡◌, ◌≤◌, List, ◌∷◌, length, Some, None}
use Rattle.m_places.specs.declared.place.Place.{Place}
use Rattle.m_places.specs.declared.limits.TheConstants.{BRACKET_DEPTH}
use Rattle.m_lexer.specs.declared.token.Token.{Token}
use Rattle.m_ast.specs.declared.item.Item.{Item}
use Rattle.m_terms.specs.Depth.{first_too_deep}
use Rattle.m_items.specs.Grammar.{SpellsItems}
use Rattle.m_items.specs.declared.fault.ParseFault.{ParseFault}
use Rattle.m_items.specs.declared.fault.ParseFault.TheVariants.{TooDeep, Syntax, Memory}

-- brackets and conditionals are nowhere nested more than 256 deep
abbrev pub IsShallow : List Token → Type 0
IsShallow tokens = first_too_deep BRACKET_DEPTH 0 tokens ≡ None

-- no prefix of the tokens that parses as items extends past this rest
abbrev pub IsLongest : List Token → List Token → Type 0
IsLongest tokens rest = (items : List Item) (r : List Token) → SpellsItems items tokens r → length rest ≤ length r

-- The token after the longest prefix that parses as items is at this place. A rule with its first
-- formulas is already an item. So an error in a later formula is at the first token of that
-- formula, and an error in the first formula is at `regle`.
pub record StopsAt (tokens : List Token) (place : Place) : Type 0 where
  pub items : List Item
  pub token : Token
  pub others : List Token
  pub spelled : SpellsItems items tokens (token ∷ others)
  pub longest : IsLongest tokens (token ∷ others)
  pub placed : token.place ≡ place

pub record IsSyntaxFault (tokens : List Token) (place : Place) : Type 0 where
  pub shallow : IsShallow tokens
  pub stops : StopsAt tokens place

-- The first place that is too deep; if there is none, the place where the items end before the
-- tokens do. Out of memory is no error of the tokens.
abbrev pub IsParseFault : List Token → ParseFault → Type 0
IsParseFault tokens (TooDeep place) = first_too_deep BRACKET_DEPTH 0 tokens ≡ Some place
IsParseFault tokens (Syntax place) = IsSyntaxFault tokens place
IsParseFault tokens Memory = ⊥
