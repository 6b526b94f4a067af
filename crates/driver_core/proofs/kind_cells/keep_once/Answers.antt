use Rattle.std.proofs.Common.{◌∙◌}
use Rattle.driver_core.specs.Groups.{joined}
use Rattle.driver_core.proofs.GroupLemmas.{amount-kept, seen-more, kept-more}
use Rattle.driver_core.proofs.kind_cells.keep_once.Goals as goal

pub returns-clause-kept : goal.returns-clause-kept
returns-clause-kept c =
    kept-more c.args.seen.now c.args.index.now c.args.attribute c.args.value _ c.in_ok-insert.field-0
    (joined c.args.index.now c.args.attribute c.args.kept.now.items) _
    (amount-kept c.millionths.result c.millionths.ensures.bound ∙ c.millionths.ensures.value) c.in_ok-insert.ensures.added c.if-not-branch.false
    c.in_ok-more.ensures.kept

pub returns-clause-seen : goal.returns-clause-seen
returns-clause-seen c =
    seen-more c.args.seen.now c.insert.new.self c.args.value _ (amount-kept c.millionths.result c.millionths.ensures.bound ∙ c.millionths.ensures.value)
    c.in_ok-insert.ensures.updates.0
