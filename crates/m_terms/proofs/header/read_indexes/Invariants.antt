use Rattle.std.proofs.Common.{◌<◌, length}
use Rattle.m_terms.specs.inner.Reading.{is, index_at, indexes_at}
use Rattle.m_lexer.proofs.Chains.{Going}
use Rattle.m_terms.proofs.header.read_indexes.Given as goal

abbrev pub invariant-indexes : goal.invariant-indexes
invariant-indexes l = record {
  shorter : length l.cursor < length l.fn.cursor;
  going : Going (is l.between) (λ _ x. x) (index_at l.by_words) (indexes_at l.by_words l.fn.cursor) l.indexes.items l.cursor;
}

abbrev pub decreases-indexes : goal.decreases-indexes
decreases-indexes l = length l.cursor
