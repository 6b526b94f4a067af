use Rattle.std.proofs.Common.{◌≤◌, ◌+◌, length, drop}
use Rattle.micro_m.specs.Values.{environment, folded}
use Rattle.driver_core.specs.Leaves.{then_present}
use Rattle.mpp_inline.specs.inner.Sizes.{load}
use Rattle.mpp_inline.specs.inner.Growth.{IsUsable, at, denoted, Sane, Known, Along}
use Rattle.mpp_inline.proofs.leaves.emit_present.Given as goal

abbrev pub invariant-loop-cell : goal.invariant-loop-cell
invariant-loop-cell l = record {
  step : Sane l.fn.b → Known l.fn.b l.env → IsUsable l.fn.b l.fn.so_far
      → Along l.fn.b l.b (λ inputs v. folded (environment (denoted l.fn.b inputs l.env)) v (then_present (drop l.cell-index l.cells)))
      (λ inputs. folded (environment (denoted l.fn.b inputs l.env)) (at l.fn.b inputs l.fn.so_far) (then_present l.cells)) l.number;
  size : load l.b + length (drop l.cell-index l.cells) ≤ load l.fn.b + length l.cells;
}
