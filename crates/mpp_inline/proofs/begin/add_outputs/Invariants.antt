use Rattle.std.proofs.Common.{◌≡◌, ◌++◌, drop, map}
use Rattle.std.specs.Prelude.{slice_index_or}
use Rattle.mpp_inline.proofs.begin.add_outputs.Given as goal

abbrev pub invariant-loop-cell : goal.invariant-loop-cell
invariant-loop-cell l = l.outputs.items ++ map (λ x. slice_index_or l.env x 0) (drop l.cell-index l.requests) ≡ l.initial.outputs.items
    ++ map (λ x. slice_index_or l.env x 0) l.requests
