use Rattle.tax_print.proofs.note.print_label.Goals as goal

pub returns : goal.returns
returns g c = rw (c.bytes-verif.ensures, c.bytes-error.ensures, c.kind_text.ensures, c.bytes-text.ensures) at c.give_label.ensures
