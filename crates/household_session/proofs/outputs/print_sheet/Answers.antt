use Rattle.std.proofs.Common.{length, sym}
use Rattle.std.specs.Prelude.{map}
use Rattle.flat_code.specs.Runs.{node_values, value_at}
use Rattle.tax_print.proofs.ValuesLemmas.{outputs_reported}
use Rattle.household_session.proofs.OutputLemmas.{stop_label}
use Rattle.household_session.proofs.outputs.print_sheet.Goals as goal

pub print_stop-requires : goal.print_stop-requires
print_stop-requires g c =
    let sheet = c.args.sheet.now in
    stop_label (node_values sheet.now sheet.flat.nodes) (length c.args.face.now.labels) sheet.flat.checks c.in-Some.stop c.requires.face.labels
    (sym c.in-Some.ensures)

pub returns-in-None : goal.returns-in-None
returns-in-None g c =
    let sheet = c.args.sheet.now in
    rw (sym c.in-None.ensures)
    (rw (outputs_reported c.args.face.now.labels c.args.face.now.outputs (map (value_at (node_values sheet.now sheet.flat.nodes)) sheet.flat.outputs)
    c.args.face.now.notes) at c.print_outputs.ensures)
