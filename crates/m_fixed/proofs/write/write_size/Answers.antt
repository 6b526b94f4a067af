use Rattle.std.proofs.Common.{arith}
use Rattle.m_fixed.specs.Text.{size_text}
use Rattle.m_fixed.proofs.Writing.{writes_both, units_short, ends_soon}
use Rattle.m_fixed.proofs.write.write_size.Goals as goal

pub write_whole-at-requires : goal.write_whole-at-requires
write_whole-at-requires c = omega (arith, units_short c.args.size c.requires.size_in)

pub write_fraction-requires-clause-at_in : goal.write_fraction-requires-clause-at_in
write_fraction-requires-clause-at_in c = omega (arith, units_short c.args.size c.requires.size_in, c.write_whole-at.ensures.length)

pub returns-clause-text : goal.returns-clause-text
unfolding size_text
returns-clause-text c = writes_both c.args.room.now _ _ c.args.at _ _ _ _ c.write_whole-at.ensures c.write_fraction.ensures

pub returns-clause-short : goal.returns-clause-short
unfolding size_text
returns-clause-short c = ends_soon c.args.room.now _ c.args.at c.args.size _ c.requires.size_in
    (writes_both c.args.room.now _ _ c.args.at _ _ _ _ c.write_whole-at.ensures c.write_fraction.ensures)
