use Rattle.mpp_lexer.proofs.OneReading.{one_first_fault}
use Rattle.mpp_lexer.proofs.laws.one_fault.Goals as goal

pub returns : goal.returns
returns c = one_first_fault
