use Rattle.std.proofs.Common.{ap, ◌∙◌, ltb}
use Rattle.std.proofs.lemmas.List.{take_all}
use Rattle.loop_values.proofs.Marks.{mark_more, marked_none, uses}
use Rattle.loop_values.proofs.header.repeated_letters.Goals as goal

pub loop-index-init : goal.loop-index-init
loop-index-init c = marked_none

pub loop-index-preserved : goal.loop-index-preserved
loop-index-preserved c =
    mark_more c.loop-index.once c.loop-index.twice c.args.indexes.now c.loop-index.index-index c.index-item.result c.either.result c.loop-index-test.true
    c.index-item.is c.loop-index.invariant c.either.ensures

pub returns : goal.returns
returns c = λ letter h.
    c.loop-index.invariant.second letter h ∙ ap (λ seen. ltb 1 (uses letter seen))
    (take_all c.loop-index.index-index c.args.indexes.now c.loop-index-test.false)
