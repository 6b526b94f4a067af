use Rattle.std.proofs.Common.{◌∙◌}
use Rattle.driver_core.specs.Ascending.{ascending}
use Rattle.driver_core.specs.Groups.{joined}
use Rattle.driver_core.proofs.kind_cells.KindCells.copy.Goals as goal

pub returns : goal.returns
returns c =
    (λ i. ascending (joined (c.in_ok-clone.ensures.cases i) c.self.inside.attribute ((c.in_ok-from_slice.ensures.items ∙ c.deref.ensures.value) i)))
    ∙ c.self.view_is
