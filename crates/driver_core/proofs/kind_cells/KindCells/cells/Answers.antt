use Rattle.std.proofs.Common.{ap, ◌∙◌}
use Rattle.driver_core.specs.Ascending.{ascending}
use Rattle.driver_core.specs.Groups.{joined}
use Rattle.driver_core.proofs.Orders.{sorted-ascending}
use Rattle.driver_core.proofs.kind_cells.KindCells.cells.Goals as goal

pub returns : goal.returns
returns c =
    sorted-ascending c.in_ok-cells.cells.items c.sort.new.self.items c.in_ok-sort.ensures.permutation c.in_ok-sort.ensures.sorted
    ∙ ap ascending (c.in_ok-cells.ensures ∙ (λ i. joined (c.as_ref.ensures i) c.self.inside.attribute (c.deref.ensures.value i)))
    ∙ c.self.view_is
