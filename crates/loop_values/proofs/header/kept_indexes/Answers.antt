use Rattle.std.proofs.Common.{arith}
use Rattle.loop_values.proofs.KeptLemmas.{kept_start}
use Rattle.loop_values.proofs.header.kept_indexes.Goals as goal

pub loop-left-init : goal.loop-left-init
loop-left-init c = record { within = omega arith; kept = kept_start c.new-kept.result.items c.args.headers.now c.new-kept.ensures.items }
