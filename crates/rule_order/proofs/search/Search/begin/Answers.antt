use Rattle.rule_order.proofs.WalkLemmas.{walk-begun}
use Rattle.rule_order.proofs.search.Search.begin.Goals as goal

pub returns-clause-walk : goal.returns-clause-walk
returns-clause-walk c =
    let begun = walk-begun c.args.base.now c.args.self.now.marks.items c.args.self.now.known.items c.args.self.now.sequence.items c.args.path.now.items
    c.in_ok-frame.frame c.args.position c.requires.valid c.requires.walk c.requires.waiting c.requires.reads c.in_ok-frame.ensures in
    rw c.in_ok-push.ensures.items (begun.0, begun.1, begun.2)

pub returns-clause-begun : goal.returns-clause-begun
returns-clause-begun c =
    let begun = walk-begun c.args.base.now c.args.self.now.marks.items c.args.self.now.known.items c.args.self.now.sequence.items c.args.path.now.items
    c.in_ok-frame.frame c.args.position c.requires.valid c.requires.walk c.requires.waiting c.requires.reads c.in_ok-frame.ensures in
    begun.3
