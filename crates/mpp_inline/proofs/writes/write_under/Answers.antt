use Rattle.std.proofs.Common.{[], sym, subst}
use Rattle.mpp_inline.specs.inner.Growth.{Placed, Held, Merged, SameBut, cells_of}
use Rattle.mpp_inline.proofs.ListLemmas.{same-written}
use Rattle.mpp_inline.proofs.BranchStages.{write-one}
use Rattle.mpp_inline.proofs.writes.write_under.Goals as goal

pub returns-then-guard-eq-ONE-clause-step : goal.returns-then-guard-eq-ONE-clause-step
returns-then-guard-eq-ONE-clause-step c =
    let b = c.args.b.now in
    let e = c.args.env.now in
    let ps = c.args.given.now in
    subst (λ g. Placed b e g → Held b ps → Merged b b g [] ps e c.write.new.env) (sym c.if-guard-eq-ONE.true)
    (subst (λ x. Placed b e 2 → Held b ps → Merged b b 2 [] ps e x) (sym c.write.ensures) (write-one ps))

pub returns-then-guard-eq-ONE-clause-frame : goal.returns-then-guard-eq-ONE-clause-frame
returns-then-guard-eq-ONE-clause-frame c = subst (SameBut (cells_of c.args.given.now) c.args.env.now) (sym c.write.ensures)
    (same-written c.args.given.now c.args.env.now)
