use Rattle.m_fixed.proofs.Values.{branch_taken, branch_otherwise, truth_of_over}
use Rattle.m_fixed.proofs.laws.selection_looks_no_further.Goals as goal

pub returns-clause-taken : goal.returns-clause-taken
returns-clause-taken c = branch_taken

pub returns-clause-otherwise : goal.returns-clause-otherwise
returns-clause-otherwise c = branch_otherwise

pub returns-clause-truth : goal.returns-clause-truth
returns-clause-truth c = truth_of_over
