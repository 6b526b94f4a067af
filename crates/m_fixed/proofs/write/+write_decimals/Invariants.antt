use Rattle.m_fixed.proofs.write.+write_decimals.Given as goal

abbrev pub decreases-write_decimals : goal.decreases-write_decimals
decreases-write_decimals l = l.places
