-- Parsing as a function, against which the readers are proved: the tree at the start of the tokens
-- and the remaining tokens, or none.
use Rattle.std.specs.Prelude.{List, [], length, Option, Some}
use Rattle.m_lexer.specs.declared.token.Token.{Token}
use Rattle.m_lexer.specs.declared.token.Key.TheVariants as keys
use Rattle.m_ast.specs.declared.item.Item.{Item}
use Rattle.m_ast.specs.declared.item.Item.TheVariants.{Rule, Verif}
use Rattle.m_terms.specs.Tokens.{is_key}
use Rattle.m_lexer.specs.inner.Chains.{◌>>=◌}
use Rattle.m_terms.specs.inner.Reading.{begins_by}
use Rattle.m_items.specs.inner.DeclarationReading.{declaration_at}
use Rattle.m_items.specs.inner.RuleReading.{many_at, rule_at, verification_at}
use Rattle.std.specs.Prelude.{cond}

unfoldable pub item_at : List Token → Option (Item × List Token)
item_at ts =
    cond (begins_by (is_key keys.Regle) ts) (rule_at ts >>= λ r. Some (Rule r.0, r.1))
    (cond (begins_by (is_key keys.Verif) ts) (verification_at ts >>= λ v. Some (Verif v.0, v.1)) (declaration_at ts))

-- as many items as can be read
unfoldable pub items_at : List Token → List Item × List Token
items_at ts = many_at item_at (length ts) [] ts
