use Rattle.std.proofs.Common.{false, length, ap, ◌∙◌}
use Rattle.std.proofs.lemmas.List.{length-replicate}
use Rattle.code_tests.proofs.sets.empty.Goals as goal

pub returns : goal.returns
returns c = ap length c.in_ok-set.ensures ∙ length-replicate c.args.count false
