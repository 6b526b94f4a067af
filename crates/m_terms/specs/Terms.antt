-- What the public calls read: the term, or the header, between two positions of the tokens.
use Rattle.std.specs.Prelude.{ℕ, ◌<◌, List, drop, Option, Some, None, length}
use Rattle.m_lexer.specs.declared.token.Token.{Token}
use Rattle.m_lexer.specs.declared.token.Kind.{Kind}
use Rattle.m_lexer.specs.declared.token.Kind.TheVariants.{Key, Sign}
use Rattle.m_lexer.specs.declared.token.Key.TheVariants.{Alors, Sinon, Finsi}
use Rattle.m_lexer.specs.declared.token.Sign.TheVariants.{CloseParen, CloseBracket, Comma, Semicolon, Colon}
use Rattle.m_places.specs.declared.limits.TheConstants.{BRACKET_DEPTH}
use Rattle.m_ast.specs.Syntax.{Syntax}
use Rattle.m_ast.specs.declared.header.Header.{Header}
use Rattle.m_lexer.specs.Chains.{First}
use Rattle.m_terms.specs.Tokens.{is_sign}
use Rattle.m_terms.specs.Headers.{SpellsHeader}
use Rattle.m_terms.specs.Grammar.{SpellsExpr, SpellsInner}

-- expr: a term with brackets and conditionals nested at most 256 deep
abbrev pub SpellsTerm : Syntax → List Token → List Token → Type 0
SpellsTerm = SpellsExpr (SpellsInner BRACKET_DEPTH)

-- the tokens that may follow a term: `;` `)` `]` `,` `alors` `sinon` `finsi`
abbrev pub follows_of : Kind → Option (Unit {0})
follows_of (Sign Semicolon) = Some tt
follows_of (Sign CloseParen) = Some tt
follows_of (Sign CloseBracket) = Some tt
follows_of (Sign Comma) = Some tt
follows_of (Key Alors) = Some tt
follows_of (Key Sinon) = Some tt
follows_of (Key Finsi) = Some tt
follows_of _ = None

abbrev pub follows : Token → Option (Unit {0})
follows t = follows_of t.kind

-- the table is defined at the first of these tokens
abbrev pub BeginsBy : (Token → Option (Unit {0})) → List Token → Type 0
BeginsBy table ts = (rest : List Token) × First table tt ts rest

-- The tokens from one position up to another parse as the term, and a token that may follow a term
-- comes next: in `A + 1 ;` the term `A + 1` is at 0 to 3. The end is part of the statement; without
-- it `A` would be a term at 0 to 1.
pub record TermAt (tokens : List Token) (from : ℕ) (term : Syntax) (to : ℕ) : Type 0 where
  pub onward : from < to
  pub within : to < length tokens
  pub spelled : SpellsTerm term (drop from tokens) (drop to tokens)
  pub closed : BeginsBy follows (drop to tokens)

-- The tokens from one position up to another parse as the header, and `:` comes next.
pub record HeaderAt (tokens : List Token) (from : ℕ) (header : Header) (to : ℕ) : Type 0 where
  pub onward : from < to
  pub within : to < length tokens
  pub spelled : SpellsHeader header (drop from tokens) (drop to tokens)
  pub closed : BeginsBy (is_sign Colon) (drop to tokens)

-- no term, and no header, starts at this position
abbrev pub NoTermAt : List Token → ℕ → Type 0
NoTermAt tokens from = (term : Syntax) (to : ℕ) → TermAt tokens from term to → ⊥

abbrev pub NoHeaderAt : List Token → ℕ → Type 0
NoHeaderAt tokens from = (header : Header) (to : ℕ) → HeaderAt tokens from header to → ⊥
