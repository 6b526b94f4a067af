-- What the public calls read: the declaration, or the list of applications, at the start of the
-- tokens.
use Rattle.std.specs.Prelude.{ℕ, ◌<◌, ◌≤◌, List, drop, length}
use Rattle.m_places.specs.declared.place.Place.{Place}
use Rattle.m_lexer.specs.declared.token.Token.{Token}
use Rattle.m_lexer.specs.declared.token.Key.TheVariants as keys
use Rattle.m_lexer.specs.declared.token.Sign.TheVariants as signs
use Rattle.m_ast.specs.declared.item.Item.{Item}
use Rattle.m_lexer.specs.Chains.{First}
use Rattle.m_terms.specs.Tokens.{is_sign}
use Rattle.m_terms.specs.Terms.{BeginsBy}
use Rattle.m_items.specs.Tokens.{name, SpellsSign, SpellsKey}
use Rattle.m_items.specs.DeclarationGrammar.{SpellsDeclaration, SpellsApplications}

-- The tokens up to a position parse as the declaration: the first six of `SEUIL : const = 1000 ;`,
-- for example.
pub record DeclarationAt (tokens : List Token) (item : Item) (to : ℕ) : Type 0 where
  pub some : 0 < to
  pub within : to ≤ length tokens
  pub spelled : SpellsDeclaration item tokens (drop to tokens)

-- no prefix of the tokens parses as a declaration
abbrev pub NoDeclaration : List Token → Type 0
NoDeclaration tokens = (item : Item) (rest : List Token) → SpellsDeclaration item tokens rest → ⊥

-- no further application follows
abbrev pub EndsApplications : List Token → Type 0
EndsApplications ts = BeginsBy (is_sign signs.Comma) ts → ⊥

-- The tokens up to a position parse as the applications, and no comma follows: the first five of
-- `application : iliad , batch ;`, for example. Without the last condition `application : iliad`
-- would be a list too.
pub record ApplicationsStand (tokens : List Token) (names : List (List ℕ)) (to : ℕ) : Type 0 where
  pub some : 0 < to
  pub within : to ≤ length tokens
  pub spelled : SpellsApplications names tokens (drop to tokens)
  pub ended : EndsApplications (drop to tokens)

-- no prefix of the tokens parses as applications without a comma after them
abbrev pub NoApplications : List Token → Type 0
NoApplications tokens = (names : List (List ℕ)) (rest : List Token) → SpellsApplications names tokens rest → EndsApplications rest → ⊥

-- The first tokens of a declaration: a name and a colon, or one of two reserved words. A formula
-- has `=` or `[` after its first word, so it is never confused with a declaration.
pub data BeginsDeclaration : List Token → Type 0 where
  by_name : {n : List ℕ × Place} {ts a b : List Token} → First name n ts a → SpellsSign signs.Colon a b → BeginsDeclaration ts
  by_application : {ts a : List Token} → SpellsKey keys.Application ts a → BeginsDeclaration ts
  by_chaining : {ts a : List Token} → SpellsKey keys.Enchaineur ts a → BeginsDeclaration ts
