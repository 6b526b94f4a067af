use Rattle.std.proofs.Common.{true, length, ap, ◌∙◌}
use Rattle.std.proofs.lemmas.List.{length-set}
use Rattle.code_tests.proofs.sets.add.Goals as goal

pub returns : goal.returns
returns c = ap length c.insert.ensures ∙ length-set c.args.set.now c.args.k true
