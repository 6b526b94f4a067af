use Rattle.std.proofs.Common.{rules, ◌∙◌}
use Rattle.definedness.specs.Results.{corners}
use Rattle.definedness.proofs.Beyond.{least_kept, greatest_kept, range_kept}
use Rattle.definedness.proofs.results.corners.Goals as goal

pub returns : goal.returns
returns c =
    rw (← c.a.view_is, ← c.b.view_is)
    (range_kept c.least_of.result c.greatest_of.result (corners c.args.op (c.a.inside.low, c.a.inside.high) (c.b.inside.low, c.b.inside.high)) (search rules)
    (search rules)
    (c.least_of.ensures ∙ least_kept c.corner-p.result c.corner-q.result c.corner-r.result c.corner-s.result _ _ _ _ (search rules) (search rules)
    (search rules) (search rules) c.corner-p.ensures c.corner-q.ensures c.corner-r.ensures c.corner-s.ensures)
    (c.greatest_of.ensures ∙ greatest_kept c.corner-p.result c.corner-q.result c.corner-r.result c.corner-s.result _ _ _ _ (search rules) (search rules)
    (search rules) (search rules) c.corner-p.ensures c.corner-q.ensures c.corner-r.ensures c.corner-s.ensures))
