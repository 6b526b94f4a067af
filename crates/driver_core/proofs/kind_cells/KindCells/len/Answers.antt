use Rattle.std.proofs.Common.{length, sym, ap, ◌∙◌}
use Rattle.std.specs.Prelude.{min}
use Rattle.driver_core.proofs.Orders.{length-ascending}
use Rattle.driver_core.proofs.kind_cells.KindCells.len.Goals as goal

pub returns : goal.returns
returns c = c.self.invariant ∙ ap (λ n. min n 18_446_744_073_709_551_615) (sym (length-ascending _) ∙ ap length c.self.view_is)
