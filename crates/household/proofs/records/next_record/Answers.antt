use Rattle.std.proofs.Math.Logic.{∥∥₁_map}
use Rattle.csv.specs.Records.{fields_of}
use Rattle.household.proofs.ReaderLemmas.{next_reported, on_after}
use Rattle.household.proofs.records.next_record.Goals as goal

pub invariant_of-records : goal.invariant_of-records
invariant_of-records c =
    let stated = c.read_byte_record-read.ensures in
    record {
      plain = ∥∥₁_map c.args.records.now.plain (λ on. on_after c.args.records.now.reader c.read_byte_record-read.new.self
          (fields_of c.read_byte_record-read.new.row) c.read_byte_record-read.result on
          stated.failed stated.goes stated.fails stated.why stated.ready stated.flexible stated.reads);
    }

pub returns : goal.returns
returns c = next_reported c.args.records.now _ _ c.read_byte_record-read.result _ c.read_byte_record-read.ensures.failed c.read_byte_record-read.ensures.reads
    c.found_or_full.ensures
