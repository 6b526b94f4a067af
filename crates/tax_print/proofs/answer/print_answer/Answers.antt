use Rattle.tax_print.proofs.ValuesLemmas.{outputs_reported}
use Rattle.tax_print.proofs.answer.print_answer.Goals as goal

pub returns-in-Values : goal.returns-in-Values
returns-in-Values g c =
    rw c.in-Values.is
    (rw (outputs_reported c.args.face.now.labels c.args.face.now.outputs c.in-Values.values c.args.face.now.notes) at
    (rw (c.as_slice.ensures, c.as_slice-in-Values.ensures, c.as_slice-in-Values-2.ensures) at c.print_all.ensures))
