use Rattle.std.proofs.Common.{refl}
use Rattle.m_lint.specs.declared.finding.Finding.TheVariants.{Unused}
use Rattle.m_lint.proofs.NumberLemmas.{found-next}
use Rattle.m_lint.proofs.inputs.add_unmarked.Goals as goal

pub loop-n-preserved : goal.loop-n-preserved
loop-n-preserved c = found-next Unused _ _ _ _ c.loop-n.n _ c.loop-n.invariant refl c.in_ok-add_if.ensures
