use Rattle.rule_base.proofs.Joined.{joined_next}
use Rattle.rule_base.proofs.files.joined.Goals as goal

pub loop-file-preserved : goal.loop-file-preserved
loop-file-preserved c = joined_next c.loop-file.yielded c.loop-file.items.items _ _ c.in-Some.file c.in_ok-append.ensures.items c.into_vec-more.ensures
    c.loop-file.invariant
