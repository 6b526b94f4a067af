use Rattle.mpp_lexer.proofs.OneReading.{lines_or_fault}
use Rattle.mpp_lexer.proofs.laws.no_lines_and_fault.Goals as goal

pub returns : goal.returns
returns c = lines_or_fault
