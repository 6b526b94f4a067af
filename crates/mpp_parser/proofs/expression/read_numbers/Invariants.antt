use Rattle.std.proofs.Common.{◌<◌, length}
use Rattle.mpp_lexer.specs.declared.piece.DriverSign.TheVariants.{Comma}
use Rattle.mpp_parser.specs.Grammar.{is}
use Rattle.mpp_parser.specs.inner.Reading.{number_at, numbers_at}
use Rattle.m_lexer.proofs.Chains.{Going}
use Rattle.mpp_parser.proofs.expression.read_numbers.Given as goal

abbrev pub invariant-numbers : goal.invariant-numbers
invariant-numbers l = record {
  shorter : length l.cursor < length l.fn.cursor;
  going : Going (is Comma) (λ _ x. x) number_at (numbers_at l.fn.cursor) l.numbers.items l.cursor;
}

abbrev pub decreases-numbers : goal.decreases-numbers
decreases-numbers l = length l.cursor
