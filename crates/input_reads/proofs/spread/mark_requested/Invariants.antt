use Rattle.std.proofs.Common.{◌≡◌, length}
use Rattle.input_reads.specs.inner.Masks.{IsMarked}
use Rattle.input_reads.proofs.spread.mark_requested.Given as goal

abbrev pub invariant-loop-k : goal.invariant-loop-k
invariant-loop-k l = (length l.masks ≡ length l.initial.masks) × IsMarked l.wanted l.k l.masks
