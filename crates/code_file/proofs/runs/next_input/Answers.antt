use Rattle.code_file.specs.Text.{input_line}
use Rattle.code_file.specs.inner.Faces.{IsRightInput, input_of}
use Rattle.code_file.proofs.FaceLemmas.{input-spelling}
use Rattle.code_file.proofs.FrontLemmas.{no-line, no-front, front-is}
use Rattle.code_file.proofs.runs.next_input.Goals as goal

pub returns-in-None : goal.returns-in-None
returns-in-None c = no-line input_line input_of IsRightInput input-spelling c.args.text.now c.in-None.ensures

pub returns-in-None-2 : goal.returns-in-None-2
returns-in-None-2 c = no-front input_line input_of IsRightInput input-spelling c.args.text.now c.in-Some.line.now c.in-Some.behind.now c.in-Some.ensures
    (rw c.in-None-2.is at c.in_ok-read_input-in-Some.ensures)

pub returns-in-Some-2 : goal.returns-in-Some-2
returns-in-Some-2 c = front-is input_line input_of IsRightInput input-spelling c.args.text.now c.in-Some.line.now c.in-Some.behind.now c.in-Some-2.input
    c.in-Some.ensures (rw c.in-Some-2.is at c.in_ok-read_input-in-Some.ensures)
