use Rattle.std.proofs.Common.{[], ◌∷◌}
use Rattle.std.proofs.lemmas.Result.{on_ok_weaker}
use Rattle.mpp_inline.specs.inner.Growth.{IsUsable, Placed, Held, Merged}
use Rattle.mpp_inline.proofs.writes.assign_under.Goals as goal

pub returns-clause-step : goal.returns-clause-step
returns-clause-step c =
    let b = c.args.b.now in
    let ps = (c.args.cell, c.args.number) ∷ [] in
    on_ok_weaker c.write_under.result
    (λ (m : Placed b c.args.env.now c.args.guard → Held b ps → Merged b c.write_under.new.b c.args.guard [] ps c.args.env.now c.write_under.new.env).
    λ (r : Placed b c.args.env.now c.args.guard) (h : IsUsable b c.args.number). m r (record { all = (h, tt) }))
    c.write_under.ensures.step
