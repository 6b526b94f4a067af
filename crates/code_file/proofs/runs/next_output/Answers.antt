use Rattle.code_file.specs.Text.{output_line}
use Rattle.code_file.specs.inner.Faces.{IsRightOutput, output_of}
use Rattle.code_file.proofs.FaceLemmas.{output-spelling}
use Rattle.code_file.proofs.FrontLemmas.{no-line, no-front, front-is}
use Rattle.code_file.proofs.runs.next_output.Goals as goal

pub returns-in-None : goal.returns-in-None
returns-in-None c = no-line output_line output_of IsRightOutput output-spelling c.args.text.now c.in-None.ensures

pub returns-in-None-2 : goal.returns-in-None-2
returns-in-None-2 c = no-front output_line output_of IsRightOutput output-spelling c.args.text.now c.in-Some.line.now c.in-Some.behind.now c.in-Some.ensures
    (rw c.in-None-2.is at c.in_ok-read_output-in-Some.ensures)

pub returns-in-Some-2 : goal.returns-in-Some-2
returns-in-Some-2 c = front-is output_line output_of IsRightOutput output-spelling c.args.text.now c.in-Some.line.now c.in-Some.behind.now c.in-Some-2.output
    c.in-Some.ensures (rw c.in-Some-2.is at c.in_ok-read_output-in-Some.ensures)
