use Rattle.std.proofs.Common.{◌≡◌, ◌++◌, ◌∷◌, take, map}
use Rattle.m_resolve.specs.Bases.{printable}
use Rattle.m_resolve.proofs.checks.add_behind_colon.Given as goal

abbrev pub invariant-loop-byte : goal.invariant-loop-byte
invariant-loop-byte l = l.text.items ≡ l.fn.text.items ++ 58 ∷ map printable (take l.byte-index l.bytes)
