use Rattle.std.proofs.Common.{◌<◌, length, sym, ap, arith}
use Rattle.csv.specs.Records.{fields_of}
use Rattle.input_ranges.proofs.RowLemmas.{range_known}
use Rattle.input_ranges.proofs.read.read_rows.Goals as goal

pub mark-requires : goal.mark-requires
mark-requires c =
    let known : c.in_ok-range.range.input < length c.args.inputs.now = range_known c.args.inputs.now c.in_ok-line.line (fields_of c.next_record.new.row)
    c.in_ok-range.range (sym c.in_ok-range.ensures) in
    omega (arith, known, c.loop-ranges.invariant.counted, ap length c.deref_mut.ensures.value)
