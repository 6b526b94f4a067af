use Rattle.std.proofs.Common.{sym, ap, ◌∙◌}
use Rattle.driver_core.specs.declared.kind_index.KindIndex.{KindIndex}
use Rattle.driver_core.specs.Ascending.{ascending, times}
use Rattle.driver_core.specs.Groups.{joined, groups_at}
use Rattle.driver_core.proofs.Orders.{one-order}
use Rattle.driver_core.proofs.kind_cells.numbered.Goals as goal

pub returns : goal.returns
returns c =
    let index = c.args.index.now.value in
    let a = c.args.attribute in
    let values = c.args.values.now in
    let kept = c.in_ok-values.values.items in
    let same = c.as_ref.ensures in
    ap (λ (x : KindIndex). ascending (joined x a kept)) c.in_ok-clone.ensures.cases
    ∙ one-order (joined index a kept) (groups_at index a values)
    (λ cell. (λ i. times cell (joined (sym same i) a kept)) ∙ c.in_ok-values.ensures.values cell ∙ (λ i. times cell (groups_at (same i) a values)))
