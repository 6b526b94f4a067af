use Rattle.mpp_lexer.proofs.OneReading.{one_list}
use Rattle.mpp_lexer.proofs.laws.one_list_of_lines.Goals as goal

pub returns : goal.returns
returns c = one_list
