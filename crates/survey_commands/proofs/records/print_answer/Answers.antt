use Rattle.survey_commands.proofs.RecordLemmas.{stop_reported, reported_values}
use Rattle.survey_commands.proofs.records.print_answer.Goals as goal

pub returns-in-Values : goal.returns-in-Values
returns-in-Values g c =
    rw c.in-Values.is
    (rw (reported_values c.args.face.now c.in-Values.values) at
    (rw (c.as_slice-labels.ensures, c.as_slice-outputs.ensures, c.as_slice.ensures) at c.print_values.ensures))

pub returns-in-Stopped : goal.returns-in-Stopped
returns-in-Stopped g c =
    rw c.in-Stopped.is
    (rw (stop_reported c.args.face.now c.in-Stopped.stop (rw c.in-Stopped.is at c.requires)) at
    (rw (c.as_slice-labels.ensures, c.as_slice-outputs.ensures) at c.print_stop.ensures))
