use Rattle.std.proofs.Common.{◌≡◌, take}
use Rattle.m_names.specs.Names.{AreDistinct}
use Rattle.m_names.proofs.names.Names.of.Given as goal

abbrev pub invariant-loop-name : goal.invariant-loop-name
invariant-loop-name l = (l.known ≡ take l.name-index l.names) × AreDistinct l.known
