use Rattle.std.proofs.Common.{◌≡◌, ◌++◌, drop}
use Rattle.m_ast.specs.PlainNames as spec
use Rattle.m_ast.proofs.plain_name.spelled.Given as goal

abbrev pub invariant-loop-byte : goal.invariant-loop-byte
invariant-loop-byte l = l.bytes.items ++ spec.spelled l.values (drop l.byte-index l.word) ≡ spec.spelled l.values l.word
