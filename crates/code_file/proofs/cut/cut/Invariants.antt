use Rattle.code_file.proofs.CutLemmas.{CutFrom}
use Rattle.code_file.proofs.cut.cut.Given as goal

abbrev pub invariant-loop-k : goal.invariant-loop-k
invariant-loop-k l = CutFrom l.mark l.bytes l.k
