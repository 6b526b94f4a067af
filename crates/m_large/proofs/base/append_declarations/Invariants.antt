use Rattle.std.proofs.Common.{◌≡◌, ◌++◌}
use Rattle.m_large.specs.Large.{declarations}
use Rattle.m_large.proofs.base.append_declarations.Given as goal

abbrev pub invariant-loop-k : goal.invariant-loop-k
invariant-loop-k l = l.text.items ≡ l.initial.text.items ++ declarations l.k
