use Rattle.survey_commands.proofs.OneOutput.{one_output}
use Rattle.survey_commands.proofs.program.one_output.Goals as goal

pub returns : goal.returns
returns c = λ words disk one other status outcome a b. one_output words disk one other status outcome a b
