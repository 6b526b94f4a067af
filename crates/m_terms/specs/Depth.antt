-- The nesting depth of brackets and conditionals, and the first token at which it is too great.
use Rattle.std.specs.Prelude.{ℕ, ◌+◌, ◌-◌, nat_lt, cond, List, [], ◌∷◌, Option, Some, None}
use Rattle.m_places.specs.declared.place.Place.{Place}
use Rattle.m_lexer.specs.declared.token.Token.{Token}
use Rattle.m_lexer.specs.declared.token.Kind.{Kind}
use Rattle.m_lexer.specs.declared.token.Kind.TheVariants.{Key, Sign}
use Rattle.m_lexer.specs.declared.token.Key.TheVariants.{Regle, Verif, Si, Finsi, Erreur}
use Rattle.m_lexer.specs.declared.token.Sign.TheVariants.{OpenParen, OpenBracket, CloseParen, CloseBracket}

-- The depth after a token, if it is k before: `(`, `[` and `si` add one; `)`, `]`, `finsi` and
-- `erreur` subtract one unless it is 0; `regle` and `verif` reset it to 0.
abbrev pub depth_behind : ℕ → Kind → ℕ
depth_behind k (Sign OpenParen) = k + 1
depth_behind k (Sign OpenBracket) = k + 1
depth_behind k (Key Si) = k + 1
depth_behind k (Sign CloseParen) = k - 1
depth_behind k (Sign CloseBracket) = k - 1
depth_behind k (Key Finsi) = k - 1
depth_behind k (Key Erreur) = k - 1
depth_behind k (Key Regle) = 0
depth_behind k (Key Verif) = 0
depth_behind k _ = k

-- the place of the first token after which the depth is above most, if it is k before the first one
abbrev pub first_too_deep : ℕ → ℕ → List Token → Option Place
first_too_deep most k [] = None
first_too_deep most k (t ∷ ts) = cond (nat_lt most (depth_behind k t.kind)) (Some t.place) (first_too_deep most (depth_behind k t.kind) ts)
