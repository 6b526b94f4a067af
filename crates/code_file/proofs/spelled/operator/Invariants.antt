use Rattle.std.proofs.Common.{◌≡◌, drop}
use Rattle.code_file.specs.inner.Spelled.{operators, op_among}
use Rattle.code_file.proofs.spelled.operator.Given as goal

abbrev pub invariant-loop-k : goal.invariant-loop-k
invariant-loop-k l = op_among operators l.word ≡ op_among (drop l.k operators) l.word
