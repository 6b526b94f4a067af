use Rattle.std.proofs.Common.{◌≡◌, length, get_or, refl}
use Rattle.std.proofs.lemmas.Option.{slice_get_read}
use Rattle.tax_print.proofs.value.print_values.Goals as goal

pub returns : goal.returns
returns g c =
    let output : c.index-as_slice-k.result ≡ get_or c.args.face.now.outputs c.args.k c.index-as_slice-k.result =
    rw c.as_slice-2.ensures at c.index-as_slice-k.is in
    rw (slice_get_read c.args.face.now.outputs (length c.args.face.now.outputs) c.args.k c.index-as_slice-k.result refl c.requires output)
    (rw c.as_slice.ensures at c.print_output.ensures)
