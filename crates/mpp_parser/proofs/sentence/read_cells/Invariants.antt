use Rattle.std.proofs.Common.{length}
use Rattle.mpp_lexer.specs.declared.piece.DriverSign.TheVariants.{Comma}
use Rattle.mpp_parser.specs.Grammar.{is}
use Rattle.mpp_parser.specs.inner.Reading.{cell_at, cells_at}
use Rattle.m_lexer.proofs.Chains.{Going}
use Rattle.mpp_parser.proofs.sentence.read_cells.Given as goal

abbrev pub invariant-cells : goal.invariant-cells
invariant-cells l = Going (is Comma) (λ _ x. x) cell_at (cells_at l.fn.first l.fn.cursor) l.cells.items l.cursor

abbrev pub decreases-cells : goal.decreases-cells
decreases-cells l = length l.cursor
