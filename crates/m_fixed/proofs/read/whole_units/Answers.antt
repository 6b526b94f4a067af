use Rattle.std.proofs.Common.{arith}
use Rattle.m_fixed.proofs.Reading.{units_more}
use Rattle.m_fixed.proofs.read.whole_units.Goals as goal

pub loop-byte-preserved : goal.loop-byte-preserved
loop-byte-preserved c = units_more c.args.whole.now _ _ _ c.requires (omega arith) c.loop-byte.invariant c.min-units.ensures
