use Rattle.m_lint.specs.declared.finding.Finding.TheVariants.{NeverDefined}
use Rattle.m_lint.proofs.NumberLemmas.{found-next}
use Rattle.m_lint.proofs.cells.add_marked.Goals as goal

pub loop-cell-preserved : goal.loop-cell-preserved
loop-cell-preserved c = found-next NeverDefined _ _ _ _ c.loop-cell.cell c.is_open-open.result c.loop-cell.invariant c.is_open-open.ensures
    c.in_ok-add_if.ensures
