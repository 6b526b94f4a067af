use Rattle.mpp_inline.proofs.BranchStages.{open-branches}
use Rattle.mpp_inline.proofs.branches.open_branches.Goals as goal

pub returns-clause-step : goal.returns-clause-step
returns-clause-step c = λ r. open-branches c.in_ok-value.ensures.step c.in_ok-check_line.ensures c.in_ok-truth.ensures c.in_ok-first.ensures
    c.in_ok-second.ensures r
