use Rattle.std.proofs.Common.{◌<◌, length}
use Rattle.m_lexer.specs.declared.token.Sign.TheVariants.{Comma}
use Rattle.m_terms.specs.Tokens.{is_sign}
use Rattle.m_terms.specs.inner.Reading.{span_at, values_at}
use Rattle.m_lexer.proofs.Chains.{Going}
use Rattle.m_terms.proofs.header.read_values.Given as goal

abbrev pub invariant-values : goal.invariant-values
invariant-values l = record {
  shorter : length l.cursor < length l.fn.cursor;
  going : Going (is_sign Comma) (λ _ x. x) span_at (values_at l.fn.cursor) l.values.items l.cursor;
}

abbrev pub decreases-values : goal.decreases-values
decreases-values l = length l.cursor
