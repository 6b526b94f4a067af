use Rattle.std.proofs.Common.{◌+◌, ◌≤◌, drop, length}
use Rattle.mpp_inline.specs.inner.Growth.{Placed, Held, Merged, SameButSome, cells_of}
use Rattle.mpp_inline.specs.inner.Sizes.{load}
use Rattle.mpp_inline.proofs.writes.merge.Given as goal

abbrev pub invariant-loop-cell : goal.invariant-loop-cell
invariant-loop-cell l = record {
  step : Placed l.initial.b l.initial.env l.guard → Held l.initial.b l.given → Merged l.initial.b l.b l.guard (drop l.cell-index l.given) l.given l.initial.env
      l.env;
  size : load l.b + length (drop l.cell-index l.given) ≤ load l.initial.b + length l.given;
  frame : SameButSome (cells_of (drop l.cell-index l.given)) (cells_of l.given) l.initial.env l.env;
}
