use Rattle.std.proofs.Common.{rules, ◌∙◌, ap}
use Rattle.definedness.specs.Facts.{bounded_fact}
use Rattle.definedness.proofs.Cuts.{bounded_same, kept_ordered, range_is_kept}
use Rattle.definedness.proofs.Holding.{results_ordered}
use Rattle.definedness.proofs.operator.fact_of_ranges.Goals as goal

pub bounded_fact-requires : goal.bounded_fact-requires
bounded_fact-requires c =
    let r = c.results_of-low.result in
    kept_ordered r _ (search rules) (search rules) c.results_of-low.ensures (results_ordered c.args.op c.in-Some.a c.in-Some-b.b c.shows_order.ensures
    c.shows_order-2.ensures)

pub returns-in-Some-b : goal.returns-in-Some-b
returns-in-Some-b c =
    let r = c.results_of-low.result in
    rw (c.in-Some.is, c.in-Some-b.is)
    (c.bounded_fact.ensures ∙ ap (bounded_fact c.args.undef c.args.over) (range_is_kept r (search rules) (search rules))
    ∙ bounded_same c.args.undef c.args.over r _ c.results_of-low.ensures)
