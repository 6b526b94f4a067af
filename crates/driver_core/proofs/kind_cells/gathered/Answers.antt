use Rattle.std.proofs.Common.{◌≡◌, ◌+◌, ◌++◌, ◌∷◌, drop, sym, ap, ◌∙◌, append_assoc}
use Rattle.driver_core.specs.Groups.{joined, group_at}
use Rattle.driver_core.proofs.Adding.{front-one}
use Rattle.driver_core.proofs.kind_cells.gathered.Goals as goal

pub loop-value-preserved : goal.loop-value-preserved
loop-value-preserved c =
    let index = c.args.index.now in
    let a = c.args.attribute in
    let values = c.args.values.now in
    let i = c.loop-value.value-index in
    let x = c.value-item.result in
    let cells = c.loop-value.cells.items in
    let front : drop i values ≡ x ∷ drop (i + 1) values = front-one values i x c.loop-value-test.true c.value-item.is in
    ap (λ l. l ++ joined index a (drop (i + 1) values)) c.in_ok-add_group.ensures
    ∙ append_assoc cells (group_at index a x) (joined index a (drop (i + 1) values))
    ∙ ap (λ l. cells ++ joined index a l) (sym front)
    ∙ c.loop-value.invariant
