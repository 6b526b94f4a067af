use Rattle.std.proofs.Common.{length, subst}
use Rattle.dead_rules.specs.inner.Steps.{Marks, IsAnOutput, IsOfACheck}
use Rattle.dead_rules.proofs.MarkLemmas.{roots-reached}
use Rattle.dead_rules.proofs.mark.mark_all.Goals as goal

pub mark_back-requires-clause-reached : goal.mark_back-requires-clause-reached
mark_back-requires-clause-reached c =
    roots-reached c.args.flat.now c.args.live.now c.mark_outputs.new.live c.mark_checks.new.live c.requires.none
    (subst (λ xs. Marks (IsAnOutput xs (length xs)) c.args.live.now c.mark_outputs.new.live) c.as_slice.ensures c.mark_outputs.ensures)
    (subst (λ xs. Marks (IsOfACheck xs (length xs)) c.mark_outputs.new.live c.mark_checks.new.live) c.as_slice-2.ensures c.mark_checks.ensures)
