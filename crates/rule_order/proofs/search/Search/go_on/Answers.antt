use Rattle.rule_order.proofs.WalkLemmas.{on-path, closed-cycle}
use Rattle.rule_order.proofs.search.Search.go_on.Goals as goal

pub shown_cycle-requires-clause-there : goal.shown_cycle-requires-clause-there
shown_cycle-requires-clause-there c =
    on-path c.args.base.now c.args.self.now.marks.items c.args.self.now.known.items c.args.self.now.sequence.items c.args.path.now.items c.as_slice.result.now
    c.args.cell c.index.result.now c.requires.walk c.requires.unsettled c.index.ensures c.in-Open.is c.as_slice.ensures.value

pub returns-in_ok-shown_cycle-in-Open : goal.returns-in_ok-shown_cycle-in-Open
returns-in_ok-shown_cycle-in-Open c = record {
  outcome = λ other. (
    closed-cycle c.args.base.now c.args.self.now.marks.items c.args.self.now.known.items c.args.self.now.sequence.items c.args.path.now.items
        c.as_slice.result.now c.args.cell _ c.requires.walk c.requires.reads c.as_slice.ensures.value
        (c.in_ok-shown_cycle-in-Open.ensures.cycle c.args.base.now),
    c.in_ok-shown_cycle-in-Open.ensures.least,
  );
}
