use Rattle.std.proofs.Common.{◌≡◌, drop}
use Rattle.m_names.specs.Names.{has}
use Rattle.m_names.proofs.names.has_name.Given as goal

abbrev pub invariant-loop-other : goal.invariant-loop-other
invariant-loop-other l = has l.name l.names ≡ has l.name (drop l.other-index l.names)
