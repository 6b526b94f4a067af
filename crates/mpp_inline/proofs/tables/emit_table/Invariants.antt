use Rattle.std.proofs.Common.{◌≤◌, ◌+◌, ◌*◌}
use Rattle.micro_m.specs.Values.{environment, picked, picked_value}
use Rattle.mpp_inline.specs.inner.Growth.{IsUsable, at, denoted, Sane, Known, Along}
use Rattle.mpp_inline.specs.inner.Tables.{among_cells}
use Rattle.mpp_inline.specs.inner.Sizes.{load}
use Rattle.mpp_inline.proofs.tables.emit_table.Given as goal

abbrev pub invariant-loop-left : goal.invariant-loop-left
invariant-loop-left l = record {
  step : Sane l.fn.b → Known l.fn.b l.env → IsUsable l.fn.b l.index
      → Along l.fn.b l.b (λ inputs v. among_cells (environment (denoted l.fn.b inputs l.env)) l.first (at l.fn.b inputs l.index) l.left v)
      (λ inputs. picked_value (environment (denoted l.fn.b inputs l.env)) (picked l.first l.size (at l.fn.b inputs l.index))) l.number;
  size : load l.b + 3 * l.left ≤ load l.fn.b + 3 * l.size + 3;
}

abbrev pub decreases-loop-left : goal.decreases-loop-left
decreases-loop-left l = l.left
