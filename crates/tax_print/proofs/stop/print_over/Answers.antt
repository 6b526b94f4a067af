use Rattle.tax_print.proofs.stop.print_over.Goals as goal

pub returns : goal.returns
returns g c = rw (c.bytes-verif.ensures, c.bytes-error.ensures) at c.give_pieces.ensures
