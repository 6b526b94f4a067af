use Rattle.std.proofs.Common.{inl, inr, ap, arith}
use Rattle.rule_order.specs.declared.search.Frame.{Frame}
use Rattle.rule_order.proofs.CycleLemmas.{least-turn, least-all}
use Rattle.rule_order.proofs.cycle.place_of_least.Goals as goal
use Rattle.rule_order.proofs.cycle.place_of_least.Goals.{then-ring-place, else-ring-place}

pub loop-place-preserved : goal.loop-place-preserved
loop-place-preserved c =
    let place = ap (λ (f : Frame). f.cell) c.index-ring-place.is in
    let least = ap (λ (f : Frame). f.cell) c.index-ring-least.is in
    least-turn c.args.ring.now c.loop-place.least c.if-ring-place.least c.loop-place.place c.index-ring-place.result c.index-ring-least.result
    c.loop-place-test.true c.loop-place.invariant.0 c.index-ring-place.is c.index-ring-least.is c.loop-place.invariant.1
    (elim c.if-ring-place.branch [
      | then-ring-place w ↦ inl (let t = w.if-ring-place.true in omega arith, w.least-is)
      | else-ring-place w ↦ inr
          (let t = w.if-ring-place.false in omega arith, w.least-is)
    ])

pub returns-clause-least : goal.returns-clause-least
returns-clause-least c = least-all c.args.ring.now c.loop-place.least c.loop-place.place c.loop-place-test.false c.loop-place.invariant.1
