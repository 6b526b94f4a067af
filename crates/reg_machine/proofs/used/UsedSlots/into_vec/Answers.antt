use Rattle.reg_machine.proofs.NumberingLemmas.{numbered-distinct}
use Rattle.reg_machine.proofs.used.UsedSlots.into_vec.Goals as goal

pub returns-clause-distinct : goal.returns-clause-distinct
returns-clause-distinct c = numbered-distinct _ _ c.self.invariant
