use Rattle.m_commands.proofs.OneOutput.{one_output}
use Rattle.m_commands.proofs.program.one_output.Goals as goal

pub returns : goal.returns
returns c = λ words disk typed one other status outcome a b. one_output words disk typed one other status outcome a b
