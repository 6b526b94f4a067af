use Rattle.std.proofs.Common.{◌≡◌, drop}
use Rattle.m_ast.specs.PlainNames.{paired}
use Rattle.m_ast.proofs.plain_name.value_of.Given as goal

abbrev pub invariant-loop-letter : goal.invariant-loop-letter
invariant-loop-letter l = paired (drop l.letter-index l.values) l.byte ≡ paired l.values l.byte
