use Rattle.m_cases.proofs.Observation.{reported}
use Rattle.m_cases.proofs.Cells.{fault_of}
use Rattle.household.specs.Table.{fitting_pairs}
use Rattle.m_cases.proofs.cases.read_pairs.Goals as goal

pub returns-in_err-pairs : goal.returns-in_err-pairs
returns-in_err-pairs c = reported _ _ _ _ _ c.from_residual.ensures.1
    (λ n. fault_of (fitting_pairs c.args.codes.now c.args.line) _ _ (c.in_err-pairs.ensures n))
