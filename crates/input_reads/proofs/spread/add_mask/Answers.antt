use Rattle.input_reads.proofs.MaskLemmas.{add-one}
use Rattle.input_reads.proofs.spread.add_mask.Goals as goal

pub returns-then-is_read : goal.returns-then-is_read
returns-then-is_read c = add-one c.args.masks.now c.args.x c.args.mask c.args.is_read c.if-is_read.true c.requires
