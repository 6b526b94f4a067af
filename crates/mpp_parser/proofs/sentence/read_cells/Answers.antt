use Rattle.std.proofs.Common.{arith, refl}
use Rattle.mpp_parser.specs.inner.Reading.{cells_at}
use Rattle.m_lexer.proofs.Chains.{chain_start, chain_turn, chain_stop, chain_stuck}
use Rattle.mpp_parser.proofs.Exits.{exit}
use Rattle.mpp_parser.proofs.sentence.read_cells.Goals as goal

pub cells-init : goal.cells-init
unfolding cells_at
cells-init c = rw (c.in_ok-push.ensures.items, c.new-cells.ensures.items) (chain_start _ _ _ refl)

pub returns-in_err-cell : goal.returns-in_err-cell
returns-in_err-cell c = record {
  reads =
      exit _ _ _ _ c.from_residual-in_err-cell.ensures.1 (chain_stuck _ _ _ c.cells.invariant c.cells-test.ensures.sign c.cells-test.ensures.shorter)
      c.in_err-cell.ensures.reads;
}

pub cells-preserved : goal.cells-preserved
cells-preserved c =
    rw c.in_ok-push-2.ensures.items (chain_turn _ _ _ c.cells.invariant c.cells-test.ensures.sign c.in_ok-cell.ensures.reads
    (omega (arith, c.in_ok-cell.ensures.shorter, c.cells-test.ensures.shorter)))

pub returns : goal.returns
returns c = record { reads = rw c.cells-test.ensures.sign.0 (chain_stop _ _ _ c.cells.invariant c.cells-test.ensures.sign.1) }
